-- What an operator is written out as is well-sorted where the operator may stand over its arguments.
use Rattle.std.proofs.Common.{ap, ◌∙◌}
use Rattle.std.proofs.lemmas.Result.{IfOk-weaker}
use Rattle.bv_terms.specs.WellSorted.{sort_of}
use Rattle.term_text.specs.Build.{terms_at, sorts_at, StandsFor}
use Rattle.term_text.proofs.BuildLemmas.{sorts_at-is}
use Rattle.term_text.proofs.WrittenLemmas.{written-well_sorted, written-sorted}
use Rattle.term_text.proofs.operator.Operator.write_out.Goals as goal

pub make_written-requires-clause-sorted : goal.make_written-requires-clause-sorted
make_written-requires-clause-sorted c =
    written-well_sorted c.args.terms.now c.len.ensures.table c.args.self.now c.args.args.now c.requires.nodes
    c.requires.fits

pub returns-clause-sort : goal.returns-clause-sort
returns-clause-sort c = λ s judged.
    let table = c.args.terms.now in
    let ids = c.args.args.now in
    IfOk-weaker c.make_written.result _ _
    (λ at (stands : StandsFor c.make_written.new.terms at _). ap (sort_of table.pointer) stands.term
    ∙ written-sorted table.pointer c.args.self.now (sorts_at table ids) s judged (terms_at table ids)
    (sorts_at-is table c.len.ensures.table ids c.requires.nodes))
    c.make_written.ensures.stands
