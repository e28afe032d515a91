-- A file that is not refused, with its claims.
use Rattle.std.specs.Prelude.{◌≡◌, ℕ, List}
use Rattle.isel_spec.specs.Spec.{file}
use Rattle.isel_cmd.specs.declared.accepted.AcceptedFile.{AcceptedFile}
use Rattle.isel_cmd.specs.Refusal.{plan_of}
use Rattle.isel_cmd.specs.Program.{IsAccepted}

-- the bytes are this file, which is not refused, and these are its claims
pub record IsAcceptedAs (bytes : List ℕ) (bound : ℕ) (a : AcceptedFile) : Type 0 where
  pub accepted : IsAccepted bytes bound (file a.spec)
  pub plan_is : a.plan ≡ plan_of (file a.spec) bound
