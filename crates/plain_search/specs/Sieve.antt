-- What a sieve takes of the candidates that it is handed one after the other.
use Rattle.std.specs.Prelude.{◌≡◌, ℕ, List, [], ◌∷◌, ◌++◌, Some, slice_get}
use Rattle.std.specs.List.{flat_map}
use Rattle.isel_spec.specs.File.{File, Goal}
use Rattle.pattern_core.specs.declared.pattern.Node.{Node}
use Rattle.pattern_core.specs.declared.pattern.Src.{Src}
use Rattle.pattern_core.specs.declared.pattern.Pattern.{Pattern}
use Rattle.pattern_core.specs.Pattern.{IsWellFormed}
use Rattle.pattern_core.specs.Walk.{IsCanonical}
use Rattle.plain_search.specs.Patterns.{nodes_after, node_lists, patterns_of, AreKept}

-- taking these one after the other leads from the one state to the other
abbrev pub Taken : {S : Type 0} → (S → Pattern → S → Type 0) → S → List Pattern → S → Type 0
Taken takes old [] new = old ≡ new
Taken takes old (p ∷ ps) new = (mid : _) × takes old p mid × Taken takes mid ps new

-- what a sieve is handed of the candidates
abbrev pub IsHanded : File → Goal → Pattern → Type 0
IsHanded f g p = IsWellFormed f g p × IsCanonical p

-- those of the candidates that are well-formed and canonical, taken in order, lead from the one state to the other
pub record IsSifted {S : Type 0} (takes : S → Pattern → S → Type 0) (f : File) (g : Goal) (old : S)
    (candidates : List Pattern) (new : S) : Type 0 where
  pub taken : List Pattern
  pub kept : AreKept (IsHanded f g) candidates taken
  pub steps : Taken takes old taken new

-- the same for the goal in that place of the file, whose candidates a function tells
abbrev pub Sifts : {S : Type 0} → (S → Pattern → S → Type 0) → File → ℕ → S → (Goal → List Pattern) → S → Type 0
Sifts takes f place old candidates new =
    (g : Goal) → slice_get f.goals place ≡ Some g → IsSifted takes f g old (candidates g) new

-- the candidates that begin with these nodes and go on with n of the operations
abbrev pub candidates_after : File → Goal → ℕ → List Node → List ℕ → List Pattern
candidates_after f g n nodes ops = flat_map (patterns_of f g) (node_lists f g n nodes ops)

-- those whose next node is of this operation, so that these operations are left
abbrev pub candidates_with : File → Goal → ℕ → List Node → ℕ → List ℕ → List Pattern
candidates_with f g n nodes op left =
    flat_map (λ node. candidates_after f g n (nodes ++ node ∷ []) left)
    (nodes_after f g nodes op (slice_get f.ops op))

-- those whose next node is of this operation, with these attributes and one of these choices of arguments
abbrev pub candidates_over : File → Goal → ℕ → List Node → ℕ → List ℕ → List (List Src) → List ℕ → List Pattern
candidates_over f g n nodes op left argss attrs =
    flat_map (λ args. candidates_after f g n (nodes ++ record { op = op; attrs = attrs; args = args } ∷ []) left) argss
