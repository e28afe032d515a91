use Rattle.bv_query.proofs.SessionLemmas.{right-extends}
use Rattle.bv_query.proofs.session.Session.formulas.Goals as goal

pub returns-clause-extends : goal.returns-clause-extends
returns-clause-extends c = λ old new more right. right-extends c.args.self.now old new more right
