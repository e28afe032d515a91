use Rattle.loc_encode.proofs.EncodedLemmas.{right-kept, agreement-kept, difference-kept}
use Rattle.loc_encode.proofs.laws.stays_right.Goals as goal

pub returns-clause-formula : goal.returns-clause-formula
returns-clause-formula c = right-kept

pub returns-clause-agreement : goal.returns-clause-agreement
returns-clause-agreement c = agreement-kept

pub returns-clause-difference : goal.returns-clause-difference
returns-clause-difference c = difference-kept
