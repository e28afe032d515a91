use Rattle.loc_encode.proofs.AgreementLemmas.{AreLines}
use Rattle.loc_encode.proofs.agreement.all_sources.Given as goal

abbrev pub invariant-loop-line : goal.invariant-loop-line
invariant-loop-line l =
    AreLines l.spec l.goal l.ops l.kinds.items l.inputs l.fn.terms l.terms l.sources.items l.line
