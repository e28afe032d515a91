-- The formula and the log that a text says, or its first line that is not of the form. Formulas are in the DIMACS form
-- of the SAT competitions, with a clause a line; the lines of chains after them are this project's own.
use Rattle.std.specs.Prelude.{◌≡◌, ℕ, ◌+◌, ◌==◌, List, [], ◌∷◌, ◌++◌, length, nat_lt, Option, Some, None, option_map}
use Rattle.std.specs.Prelude.{Result, Ok, Err, MatchResult, ◌⊎◌, if◌then◌else◌, codes}
use Rattle.std.specs.Option.{is_some, is_none, ok_or}
use Rattle.std.specs.Str.{bytes_eq}
use Rattle.cnf_core.specs.declared.clause.Lit.{Lit}
use Rattle.cnf_core.specs.declared.log.Chain.{Chain}
use Rattle.dimacs.specs.declared.error.Fault.TheVariants.{NoHead, LateHead, BadHead, LateClause, BadClause, BadChain}
use Rattle.dimacs.specs.declared.error.Fault.TheVariants.{WrongCount}
use Rattle.dimacs.specs.declared.error.ParseError.{ParseError}
use Rattle.dimacs.specs.declared.error.ParseError.TheVariants.{Line, NoMemory}
use Rattle.dimacs.specs.declared.input.Input.{Input}
use Rattle.dimacs.specs.declared.input.Reader.{Reader}
use Rattle.dimacs.specs.Text.{lines, words, is_comment}
use Rattle.dimacs.specs.Line.{head, literals, chain}

-- the formula over that many variables without a clause, and no chain
abbrev pub empty : ℕ → Input
empty variables = record { cnf = record { variables = variables; clauses = [] }; log = record { chains = [] } }

-- before the first line
abbrev pub start : Reader
start = record { clauses = None; input = empty 0 }

-- a head stands before all clauses and chains, so it begins the formula
abbrev pub with_head : ℕ × ℕ → Reader
with_head numbers = record { clauses = Some numbers.1; input = empty numbers.0 }

abbrev pub after_head : Reader → ℕ → List (List ℕ) → Result Reader ParseError
after_head r line ws = if is_some r.clauses
    then Err (Line line LateHead)
    else ok_or (option_map with_head (head ws)) (Line line BadHead)

abbrev pub with_clause : Reader → List Lit → Reader
with_clause r lits = record {
  clauses = r.clauses;
  input = record {
    cnf = record { variables = r.input.cnf.variables; clauses = r.input.cnf.clauses ++ record { lits = lits } ∷ [] };
    log = r.input.log;
  };
}

abbrev pub after_clause : Reader → ℕ → List (List ℕ) → Result Reader ParseError
after_clause r line ws = if is_none r.clauses then Err (Line line NoHead) else
    if nat_lt 0 (length r.input.log.chains) then Err (Line line LateClause) else
    ok_or (option_map (with_clause r) (literals r.input.cnf.variables ws)) (Line line BadClause)

abbrev pub with_chain : Reader → Chain → Reader
with_chain r new = record {
  clauses = r.clauses;
  input = record { cnf = r.input.cnf; log = record { chains = r.input.log.chains ++ new ∷ [] } };
}

abbrev pub after_chain : Reader → ℕ → List (List ℕ) → Result Reader ParseError
after_chain r line ws = if is_none r.clauses then Err (Line line NoHead) else
    ok_or (option_map (with_chain r) (chain r.input.cnf.variables ws)) (Line line BadChain)

-- a line without a word says nothing, and no more does a comment
abbrev pub after_words : Reader → ℕ → List (List ℕ) → Result Reader ParseError
after_words r line [] = Ok r
after_words r line (word ∷ ws) = if is_comment word then Ok r else
    if bytes_eq word (codes "p") then after_head r line ws else
    if bytes_eq word (codes "r") then after_chain r line ws else
    after_clause r line (word ∷ ws)

abbrev pub and_then : {A B : Type 0} → (A → Result B ParseError) → Result A ParseError → Result B ParseError
and_then f (Ok x) = f x
and_then f (Err e) = Err e

-- lines that follow so many others
abbrev pub after_lines : Reader → ℕ → List (List ℕ) → Result Reader ParseError
after_lines r before [] = Ok r
after_lines r before (line ∷ more) =
    and_then (λ s. after_lines s (before + 1) more) (after_words r (before + 1) (words line))

abbrev pub if_counted : ℕ → Input → Option ℕ → Result Input ParseError
if_counted line input None = Err (Line line NoHead)
if_counted line input (Some n) = if length input.cnf.clauses == n then Ok input else Err (Line line WrongCount)

-- the head is true of the number of clauses
abbrev pub at_end : ℕ → Reader → Result Input ParseError
at_end line r = if_counted line r.input r.clauses

-- the lines of a text, and then its end
abbrev pub input_of : List ℕ → Result Input ParseError
input_of bytes = and_then (at_end (length (lines bytes))) (after_lines start 0 (lines bytes))

-- what a call returned, unless memory ran out
abbrev pub IsButForMemory : {A : Type 0} → Result A ParseError → Result A ParseError → Type 0
IsButForMemory expected result = MatchResult result (λ x. expected ≡ Ok x) (λ e. (e ≡ NoMemory) ⊎ (expected ≡ Err e))
