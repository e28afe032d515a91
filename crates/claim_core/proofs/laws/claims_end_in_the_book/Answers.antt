use Rattle.claim_core.proofs.RunLemmas.{claims_end}
use Rattle.claim_core.proofs.laws.claims_end_in_the_book.Goals as goal

pub returns : goal.returns
returns g c = claims_end _
