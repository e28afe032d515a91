use Rattle.std.proofs.Common.{◌∙◌, ap}
use Rattle.bit_blast.specs.Blast.{Blast}
use Rattle.bit_blast.proofs.BlastLemmas.{right-clauses, IsRight-extends}
use Rattle.bit_blast.proofs.blaster.Blaster.blasted.Goals as goal

pub returns-clause-clauses : goal.returns-clause-clauses
returns-clause-clauses c = λ table right. right-clauses c.args.self.now table right _ _
    (c.blasted.ensures.cnf ∙ ap (λ (b : Blast). b.netlist.formula) c.self.view_is)
    (c.blasted.ensures.bits ∙ ap (λ (b : Blast). b.netlist.bits) c.self.view_is)

pub returns-clause-extends : goal.returns-clause-extends
returns-clause-extends c = λ old new more right. IsRight-extends c.args.self.now old new more right
