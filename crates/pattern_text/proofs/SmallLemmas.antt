-- Numbers that are small, read at once or tested after.
use Rattle.std.proofs.Common.{◌≡◌, ◌∙◌, ℕ, List, Option, Some, None, Bool, true, false, ◌&&◌, refl, ap, sym, arith}
use Rattle.std.proofs.Common.{take, drop, ◌+◌}
use Rattle.std.specs.Prelude.{option_and_then, option_map, nat_le, if◌then◌else◌}
use Rattle.list_lemmas.proofs.Bools.{le_true}
use Rattle.sexp_read.specs.Words.{is_numeral, decimal_value, numeral_between}
use Rattle.pattern_core.specs.declared.pattern.Src.{Src}
use Rattle.pattern_core.specs.declared.pattern.Src.TheVariants.{Input, Out}
use Rattle.pattern_text.specs.Form.{where_true, number, out_at}
use Rattle.pattern_text.specs.Small.{small_source}

abbrev at_most : ℕ → ℕ → Option ℕ
at_most most n = where_true (nat_le n most) n

-- a numeral up to a bound
by-tests : (numeral few : Bool) (n : ℕ) (next : ℕ → Option ℕ) → next n ≡ where_true few n
    → (if numeral && few then Some n else None) ≡ option_and_then next (where_true numeral n)
by-tests true true n next e = sym e
by-tests true false n next e = sym e
by-tests false few n next e = refl

pub numeral-small : (most : ℕ) (word : List ℕ)
    → numeral_between 0 most word ≡ option_and_then (at_most most) (number word)
numeral-small most word =
    let n : ℕ = decimal_value word in
    ap (λ b. if is_numeral word && (b && nat_le n most) then Some n else None) (le_true 0 n (omega arith))
    ∙ by-tests (is_numeral word) (nat_le n most) n (at_most most) refl

-- a source of small numbers
input-small : (o : Option ℕ) → option_map (λ k. Input k) (option_and_then (at_most 3) o)
    ≡ option_and_then small_source (option_map (λ k. Input k) o)
input-small None = refl
input-small (Some k) = by (nat_le k 3)
  where
    by : (b : Bool) → option_map (λ j. Input j) (where_true b k) ≡ where_true b (Input k)
    by true = refl
    by false = refl

pub small-input : (word : List ℕ) → option_map (λ k. Input k) (numeral_between 0 3 word)
    ≡ option_and_then small_source (option_map (λ k. Input k) (number word))
small-input word = ap (option_map (λ k. Input k)) (numeral-small 3 word) ∙ input-small (number word)

abbrev out_by : Option ℕ → Option ℕ → Option Src
out_by o p = option_and_then (λ j. option_and_then (λ r. Some (Out j r)) p) o

both : (j r : ℕ) (a b : Bool) → out_by (where_true a j) (where_true b r) ≡ where_true (a && b) (Out j r)
both j r true true = refl
both j r true false = refl
both j r false b = refl

one : (o : Option ℕ) → out_by o None ≡ None
one None = refl
one (Some j) = refl

out-small : (o p : Option ℕ) → out_by (option_and_then (at_most 5) o) (option_and_then (at_most 2) p)
    ≡ option_and_then small_source (out_by o p)
out-small None p = refl
out-small (Some j) None = one (at_most 5 j)
out-small (Some j) (Some r) = both j r (nat_le j 5) (nat_le r 2)

pub small-out : (word : List ℕ) (stop : ℕ)
    → out_by (numeral_between 0 5 (take stop word)) (numeral_between 0 2 (drop (stop + 1) word))
    ≡ option_and_then small_source (out_at word stop)
small-out word stop =
    (λ i. out_by (numeral-small 5 (take stop word) i) (numeral-small 2 (drop (stop + 1) word) i))
    ∙ out-small (number (take stop word)) (number (drop (stop + 1) word))
