use Rattle.claim_core.proofs.RunLemmas.{claims_dealt_once}
use Rattle.claim_core.proofs.laws.claims_are_dealt_once.Goals as goal

pub returns : goal.returns
returns g c = claims_dealt_once _
