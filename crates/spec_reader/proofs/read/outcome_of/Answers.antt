use Rattle.std.proofs.Common.{◌<◌, All, length, sym, subst}
use Rattle.spec_reader.proofs.TopLemmas.{top-within, read-outcome}
use Rattle.spec_reader.proofs.read.outcome_of.Goals as goal

pub file_read-requires-clause-items_in : goal.file_read-requires-clause-items_in
file_read-requires-clause-items_in c =
    subst (All (λ item. item < length c.in-Ok.forest.items)) (sym c.top.ensures)
    (top-within c.args.bytes.now c.in-Ok.forest c.in-Ok.ensures.reading)

pub returns-in-Ok : goal.returns-in-Ok
returns-in-Ok c = record {
  outcome = read-outcome c.args.bytes.now c.in-Ok.forest c.top.result.now c.file_read.result c.in-Ok.ensures.reading
      c.top.ensures c.file_read.ensures;
}
