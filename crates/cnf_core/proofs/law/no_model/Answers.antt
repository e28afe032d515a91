use Rattle.cnf_core.proofs.Sound.{accepted-no_model}
use Rattle.cnf_core.proofs.law.no_model.Goals as goal

pub returns : goal.returns
returns c = accepted-no_model c.args.cnf.now.clauses c.args.log.now.chains c.requires
