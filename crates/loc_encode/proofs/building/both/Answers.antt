use Rattle.loc_encode.proofs.BuildingLemmas.{made_both}
use Rattle.loc_encode.proofs.building.both.Goals as goal

pub made-requires-clause-allowed : goal.made-requires-clause-allowed
made-requires-clause-allowed c = made_both c.args.terms.now c.args.left c.args.right c.requires.sort
