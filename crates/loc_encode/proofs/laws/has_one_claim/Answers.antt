use Rattle.loc_encode.proofs.ClaimLemmas.{has_claim}
use Rattle.loc_encode.proofs.laws.has_one_claim.Goals as goal

pub returns-clause-there : goal.returns-clause-there
returns-clause-there c = has_claim c.args.spec.now c.args.goal c.args.multi.now c.requires
