use Rattle.std.proofs.Common.{⊎_elim}
use Rattle.isel_spec.specs.Spec.{file}
use Rattle.spec_reader.proofs.FileLemmas.{read-is-file, every-file, no-fault}
use Rattle.spec_reader.proofs.read.read_spec.Goals as goal

pub returns-in-Ok : goal.returns-in-Ok
returns-in-Ok c = record {
  outcome = c.in-Ok.ensures.outcome;
  grammar = read-is-file c.args.bytes.now (file c.in-Ok.spec) c.in-Ok.ensures.outcome;
  every_file = λ f is. every-file c.args.bytes.now f (file c.in-Ok.spec) is c.in-Ok.ensures.outcome;
}

pub returns-in-Err : goal.returns-in-Err
returns-in-Err c = record {
  outcome = c.in-Err.ensures.outcome;
  grammar = tt;
  every_file = λ f is.
      ⊎_elim (λ memory. memory) (λ told. absurd (no-fault c.args.bytes.now f c.in-Err.fault is told))
      c.in-Err.ensures.outcome;
}
