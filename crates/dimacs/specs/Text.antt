-- The lines and words of a text, as in the DIMACS form of the SAT competitions (satcompetition.github.io, "Output and
-- input format"; DIMACS, Satisfiability: Suggested Format, 1993).
use Rattle.std.specs.Prelude.{ℕ, ◌==◌, ◌||◌, Bool, false, not, List, [], ◌∷◌, length}
use Rattle.std.specs.List.{slice_split, filter}

-- a line feed ends a line
abbrev pub lines : List ℕ → List (List ℕ)
lines bytes = slice_split (λ b. b == 10) bytes

-- blanks and tabs part words
abbrev pub is_gap : ℕ → Bool
is_gap b = (b == 32) || (b == 9)

abbrev pub words : List ℕ → List (List ℕ)
words line = filter (λ word. not (length word == 0)) (slice_split is_gap line)

-- a line whose first word begins with `c` is a comment
abbrev pub is_comment : List ℕ → Bool
is_comment [] = false
is_comment (b ∷ _) = b == 99
