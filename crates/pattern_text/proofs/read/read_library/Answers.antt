use Rattle.std.proofs.Common.{◌<◌, All, length, sym, subst}
use Rattle.isel_spec.specs.Spec.{file}
use Rattle.pattern_text.proofs.OutcomeLemmas.{top-within, read-outcome}
use Rattle.pattern_text.proofs.read.read_library.Goals as goal

pub library_read-requires-clause-items_in : goal.library_read-requires-clause-items_in
library_read-requires-clause-items_in c =
    subst (All (λ item. item < length c.in-Ok.forest.items)) (sym c.top.ensures)
    (top-within c.args.bytes.now c.in-Ok.forest c.in-Ok.ensures.reading)

pub returns-in-Ok : goal.returns-in-Ok
returns-in-Ok c = record {
  outcome = read-outcome (file c.args.spec.now) c.args.bytes.now c.in-Ok.forest c.top.result.now c.library_read.result
      c.in-Ok.ensures.reading c.top.ensures c.library_read.ensures;
}
