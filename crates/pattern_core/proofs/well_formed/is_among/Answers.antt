use Rattle.pattern_core.specs.declared.pattern.Src.TheVariants.{Input}
use Rattle.pattern_core.specs.Pattern.{IsOf}
use Rattle.pattern_core.proofs.FitLemmas.{none_among}
use Rattle.std.proofs.lemmas.List.Elements.{All-more}
use Rattle.pattern_core.proofs.well_formed.is_among.Goals as goal
use Rattle.list_lemmas.proofs.Bools.{no_answer, not_by_test as never}

pub loop-source-preserved : goal.loop-source-preserved
loop-source-preserved c =
    All-more (λ s. IsOf c.args.node s → ⊥) c.args.sources.now c.loop-source.source-index
    (Input 0) c.loop-source-test.true c.loop-source.invariant
    (never c.is_of.result c.if-is_of.false c.is_of.ensures)

pub returns : goal.returns
returns c =
    no_answer (none_among c.args.node c.args.sources.now c.loop-source.source-index c.loop-source-test.false
    c.loop-source.invariant)
