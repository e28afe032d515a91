use Rattle.std.proofs.Common.{◌∙◌, ap}
use Rattle.bit_blast.specs.Blast.{Blast}
use Rattle.bit_blast.proofs.BlastLemmas.{right-clauses}
use Rattle.bit_blast.proofs.blaster.Blaster.into_blasted.Goals as goal

pub returns : goal.returns
returns c = λ table right. right-clauses c.args.self table right _ _
    (c.into_blasted.ensures.cnf ∙ ap (λ (b : Blast). b.netlist.formula) c.self.view_is)
    (c.into_blasted.ensures.bits ∙ ap (λ (b : Blast). b.netlist.bits) c.self.view_is)
