use Rattle.std.proofs.Common.{ℕ, List, ◌≤◌, length, sym, subst}
use Rattle.isel_base.specs.Outside.{Rose}
use Rattle.isel_cmd.specs.Refusal.{most_bytes}
use Rattle.isel_cmd.specs.Program.{HasBytes}
use Rattle.isel_cmd.proofs.CauseLemmas.{accepted_there}
use Rattle.isel_cmd.proofs.accepted.accepted.Goals as goal

pub returns-in-Err-clause-outcome : goal.returns-in-Err-clause-outcome
returns-in-Err-clause-outcome g c = c.in-Err.ensures.bytes c.args.bound

pub accepted_in-requires : goal.accepted_in-requires
accepted_in-requires g c = record {
  short = subst (λ (bytes : List ℕ). length bytes ≤ most_bytes) (sym c.deref.ensures.value)
      (c.in-Ok.ensures.bytes c.args.bound).1;
  bound = c.requires;
}

pub returns-clause-outcome : goal.returns-clause-outcome
returns-clause-outcome g c =
    let told = g.F.Files.bytes c.args.files.now in
    accepted_there told
    (λ other. Rose (g.F.Files.faults c.args.files.now other) (g.F.Files.faults c.bytes_of.new.files other))
    c.args.name.now c.deref.result.now c.args.bound c.accepted_in.result
    (subst (HasBytes told c.args.name.now) (sym c.deref.ensures.value) (c.in-Ok.ensures.bytes c.args.bound).0)
    c.accepted_in.ensures
