-- What the words of a line say. Heads and clauses are those of the DIMACS form of the SAT competitions, with a clause a
-- line; the form of chains is this project's own. Numbers are numerals without a leading zero.
use Rattle.std.specs.Prelude.{ℕ, ◌-◌, ◌^◌, ◌==◌, Bool, true, false, List, [], ◌∷◌, length, Option, Some, None}
use Rattle.std.specs.Prelude.{if◌then◌else◌, codes, option_and_then, option_map}
use Rattle.std.specs.Str.{bytes_eq}
use Rattle.sexp_read.specs.Words.{numeral_between}
use Rattle.cnf_core.specs.declared.clause.Lit.{Lit}
use Rattle.cnf_core.specs.declared.log.Chain.{Chain}

infixl 10 ◌>>=◌
abbrev pub ◌>>=◌ : {A B : Type 0} → Option A → (A → Option B) → Option B
o >>= f = option_and_then f o

abbrev pub number : List ℕ → Option ℕ
number word = numeral_between 0 (2 ^ 64 - 1) word

abbrev pub head_of : List ℕ → List ℕ → Option (ℕ × ℕ)
head_of variables clauses = do
  v ← numeral_between 0 (2 ^ 40) variables
  c ← number clauses
  Some (v, c)

-- `cnf VARIABLES CLAUSES`, which follows a `p`
abbrev pub head : List (List ℕ) → Option (ℕ × ℕ)
head (form ∷ variables ∷ clauses ∷ []) = if bytes_eq form (codes "cnf") then head_of variables clauses else None
head _ = None

-- the variable numbered from 1 by a numeral, with a sign
abbrev pub signed : ℕ → Bool → List ℕ → Option Lit
signed variables positive digits =
    option_map (λ n. record { variable = n - 1; positive = positive }) (numeral_between 1 variables digits)

-- a numeral from 1 to the number of variables, with `-` before it for the negation
abbrev pub literal : ℕ → List ℕ → Option Lit
literal variables [] = None
literal variables (b ∷ digits) =
    if b == 45 then signed variables false digits else signed variables true (b ∷ digits)

-- an element before others, where both are there
abbrev pub one_more : {A : Type 0} → Option A → Option (List A) → Option (List A)
one_more first rest = do
  x ← first
  xs ← rest
  Some (x ∷ xs)

-- literals, and a 0 at the end
abbrev pub literals : ℕ → List (List ℕ) → Option (List Lit)
literals variables [] = None
literals variables (word ∷ words) = if bytes_eq word (codes "0")
    then (if length words == 0 then Some [] else None)
    else one_more (literal variables word) (literals variables words)

-- a literal and the number of a clause
abbrev pub step : ℕ → List ℕ → List ℕ → Option (Lit × ℕ)
step variables word clause = do
  l ← literal variables word
  n ← number clause
  Some (l, n)

abbrev pub steps : ℕ → List (List ℕ) → Option (List (Lit × ℕ))
steps variables [] = Some []
steps variables (word ∷ []) = None
steps variables (word ∷ clause ∷ words) = one_more (step variables word clause) (steps variables words)

-- `FIRST LITERAL NUMBER ..`, which follows an `r`
abbrev pub chain : ℕ → List (List ℕ) → Option Chain
chain variables [] = None
chain variables (first ∷ words) = do
  n ← number first
  ss ← steps variables words
  Some (record { first = n; steps = ss })
