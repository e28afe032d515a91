-- Why there is no file: from the bytes that were read to those under a name.
use Rattle.std.proofs.Common.{◌≡◌, ℕ, ◌+◌, ◌<◌, List, length, replicate, Option, Some, None}
use Rattle.std.proofs.Common.{Result, Ok, Err, refl, arith}
use Rattle.std.specs.Prelude.{IfSome, MatchResult}
use Rattle.std.proofs.lemmas.List.{length-replicate}
use Rattle.isel_cmd.specs.declared.accepted.AcceptedFile.{AcceptedFile}
use Rattle.isel_cmd.specs.declared.refusal.Failure.{Failure}
use Rattle.isel_cmd.specs.declared.refusal.Failure.TheVariants as failure
use Rattle.isel_cmd.specs.Refusal.{most_bytes}
use Rattle.isel_cmd.specs.Program.{Told, HasBytes, IsCause, IsCauseIn}
use Rattle.isel_cmd.specs.Accepted.{IsAcceptedAs}

-- some list is longer than that
long_list : (n : ℕ) → (xs : List ℕ) × (n < length xs)
long_list n = let size = length-replicate {A = ℕ} (n + 1) 0 in (replicate (n + 1) 0, omega (arith, size))

-- bytes that are too many, where they are told, are so where they are not
pub too_long : (told : Option (List ℕ)) (P : Type 0) → P → IfSome told (λ all. P → most_bytes < length all)
    → (bytes : List ℕ) × IfSome told (λ all. bytes ≡ all) × (most_bytes < length bytes)
too_long None P p h = let l = long_list most_bytes in (l.0, tt, l.1)
too_long (Some all) P p h = (all, refl, h p)

pub cause_there : (told : Told) (failed : List ℕ → Type 0) (name bytes : List ℕ) (bound : ℕ) (e : Failure)
    → HasBytes told name bytes → IsCauseIn bytes bound e → IsCause told failed name bound e
cause_there told failed name bytes bound (failure.Refused reason) has h = (bytes, has, h)
cause_there told failed name bytes bound failure.ReadFault has h = absurd h
cause_there told failed name bytes bound failure.NoMemory has h = tt

pub accepted_there : (told : Told) (failed : List ℕ → Type 0) (name bytes : List ℕ) (bound : ℕ)
    (r : Result AcceptedFile Failure) → HasBytes told name bytes
    → MatchResult r (IsAcceptedAs bytes bound) (IsCauseIn bytes bound)
    → MatchResult r (λ a. (all : List ℕ) × HasBytes told name all × IsAcceptedAs all bound a)
    (IsCause told failed name bound)
accepted_there told failed name bytes bound (Ok a) has h = (bytes, has, h)
accepted_there told failed name bytes bound (Err e) has h = cause_there told failed name bytes bound e has h
