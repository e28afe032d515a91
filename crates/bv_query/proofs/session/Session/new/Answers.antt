use Rattle.std.proofs.Common.{◌∙◌}
use Rattle.bv_query.proofs.SessionLemmas.{right-none}
use Rattle.bv_query.proofs.session.Session.new.Goals as goal

pub returns-clause-right : goal.returns-clause-right
returns-clause-right c =
    right-none c.in_ok-blaster.blaster c.in_ok-solver.solver c.in_ok-blaster.ensures.right
    c.in_ok-blaster.ensures.formulas (c.in_ok-solver.ensures ∙ c.in_ok-cnf.ensures ∙ c.blasted.ensures.cnf)
