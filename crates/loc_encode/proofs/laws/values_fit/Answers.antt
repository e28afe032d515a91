use Rattle.loc_encode.proofs.AssignLemmas.{fits-term}
use Rattle.loc_encode.proofs.laws.values_fit.Goals as goal

pub returns : goal.returns
returns c = λ claim env table at over fits. fits-term claim env table at over fits
