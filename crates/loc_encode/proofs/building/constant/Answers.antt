use Rattle.std.proofs.Common.{subst}
use Rattle.bv_terms.specs.Sorts.{HasSort}
use Rattle.loc_encode.proofs.BuildingLemmas.{made_truth, made_bits}
use Rattle.loc_encode.proofs.building.constant.Goals as goal

pub made-requires-clause-allowed : goal.made-requires-clause-allowed
made-requires-clause-allowed c = made_truth c.args.terms.now c.in-Bool.value

pub made-requires-in-Bits-clause-allowed : goal.made-requires-in-Bits-clause-allowed
made-requires-in-Bits-clause-allowed c =
    made_bits c.args.terms.now c.in-Bits.width c.in-Bits.number c.requires.0
    (subst (HasSort c.requires.0) c.in-Bits.is c.requires.1) c.requires.2
