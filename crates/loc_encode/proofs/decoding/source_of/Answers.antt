use Rattle.std.proofs.Common.{◌∙◌, sym, arith}
use Rattle.std.proofs.lemmas.Bool.{false≢true}
use Rattle.isel_spec.specs.Spec.{file}
use Rattle.loc_encode.proofs.NumberLemmas.{source-number_small}
use Rattle.loc_encode.proofs.ReadingLemmas.{chosen-source, source-past, small-after, number-of-source_at}
use Rattle.loc_encode.proofs.decoding.source_of.Goals as goal

pub returns-then-is_chosen : goal.returns-then-is_chosen
returns-then-is_chosen c = λ g s here chosen.
    let number = c.loop-number.number in
    let both = (c.is_chosen.ensures g here).0 c.if-is_chosen.true in
    chosen-source (file c.args.spec.now) g c.args.nodes.now c.args.sort c.args.values.now c.args.first s
    c.source_at-source.result number c.source_at-source.ensures (number-of-source_at number) chosen both.0 both.1

pub loop-number-preserved : goal.loop-number-preserved
loop-number-preserved c = λ g s here chosen.
    let small =
    small-after c.args.spec.now c.args.goal g here c.args.nodes.now c.requires.few s c.args.sort chosen.sorted in
    source-past (file c.args.spec.now) g c.args.nodes.now c.args.sort c.args.values.now c.args.first s
    c.source_at-source.result c.loop-number.number c.source_at-source.ensures small chosen
    (λ both. false≢true (sym c.if-is_chosen.false ∙ (c.is_chosen.ensures g here).1 both))
    (c.loop-number.invariant g s here chosen)

pub returns : goal.returns
returns c = λ g s here chosen.
    let small =
    small-after c.args.spec.now c.args.goal g here c.args.nodes.now c.requires.few s c.args.sort chosen.sorted in
    let below = source-number_small s small in
    let before = c.loop-number.invariant g s here chosen in
    let past = c.loop-number-test.false in
    absurd (omega (arith, below, before, past))
