use Rattle.loc_encode.proofs.BuildingLemmas.{made_input}
use Rattle.loc_encode.proofs.building.input.Goals as goal

pub made-requires-clause-allowed : goal.made-requires-clause-allowed
made-requires-clause-allowed c = made_input c.args.terms.now c.number-number.result c.args.sort c.requires
