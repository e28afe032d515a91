-- A name is ASCII.
use Rattle.std.proofs.Common.{◌≡◌, ℕ, ◌<◌, List, [], ◌∷◌, get_or, zero, suc, true, refl, arith}
use Rattle.std.proofs.Common.{Some, option_map, Result, Ok, Err}
use Rattle.std.specs.List.{list_all}
use Rattle.std.specs.Str.{IsAscii, IsUtf8}
use Rattle.std.specs.Prelude.{MatchResult}
use Rattle.std.specs.Result.{result_ok}
use denote.Ref.{Bor}
use Rattle.std.proofs.lemmas.Bool.Decides.{nat_tests}
use Rattle.sexp_read.specs.Words.{is_name, is_name_byte}
use Rattle.list_lemmas.proofs.Bools.{and_left, and_right}

name_byte_small : (b : ℕ) → is_name_byte b ≡ true → b < 128
name_byte_small b e = grind (arith, nat_tests)

all_small : (bytes : List ℕ) → list_all is_name_byte bytes ≡ true → (i : ℕ) → get_or bytes i 0 < 128
all_small [] e i = omega arith
all_small (b ∷ bytes) e zero = name_byte_small b (and_left (is_name_byte b) _ e)
all_small (b ∷ bytes) e (suc i) = all_small bytes (and_right (is_name_byte b) _ e) i

pub name-ascii : (bytes : List ℕ) → is_name bytes ≡ true → IsAscii bytes
name-ascii bytes e = all_small bytes (and_right _ _ (and_left _ _ e))

pub text-of-name : {E : Type 0} (bytes : List ℕ) (V : E → Type 0) (read : Result (Bor (List ℕ)) E) → IsUtf8 bytes →
    MatchResult read (λ s. (s.now ≡ bytes) × IsUtf8 bytes) (λ e. ¬ (IsUtf8 bytes) × V e)
    → option_map (λ (s : Bor (List ℕ)). s.now) (result_ok read) ≡ Some bytes
text-of-name bytes V (Ok s) text h = rw h.0 refl
text-of-name bytes V (Err e) text h = absurd (h.0 text)
