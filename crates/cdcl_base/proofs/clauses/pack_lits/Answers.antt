use Rattle.std.proofs.Common.{ap, ◌∙◌, take, length}
use Rattle.std.proofs.Math.Seq.{take-append_seam}
use Rattle.cdcl_base.proofs.clauses.pack_lits.Goals as goal

pub returns-in_err-push-clause-front : goal.returns-in_err-push-clause-front
returns-in_err-push-clause-front c =
    ap (take (length c.args.lits.now.items)) (c.in_err-push.ensures.items ∙ c.loop-lit.invariant)
    ∙ take-append_seam c.args.lits.now.items (take c.loop-lit.lit-index c.args.added.now)
