use Rattle.loc_encode.proofs.BuildingLemmas.{made_equal}
use Rattle.loc_encode.proofs.building.equal.Goals as goal

pub made-requires-clause-allowed : goal.made-requires-clause-allowed
made-requires-clause-allowed c = made_equal c.args.terms.now c.args.left c.args.right c.requires.sort
