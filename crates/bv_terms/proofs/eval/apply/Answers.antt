-- What was read for the arguments is their values.
use Rattle.std.proofs.Common.{◌≡◌, rules}
use Rattle.bv_terms.specs.Signature.{arity}
use Rattle.bv_terms.proofs.ApplyLemmas.{value-one, value-two, value-choice}
use Rattle.bv_terms.proofs.eval.apply.Goals as goal

pub returns-in-Not : goal.returns-in-Not
returns-in-Not c =
    let one : arity c.args.op.now ≡ 1 = search rules in
    value-one c.args.inputs.now c.args.room.now c.args.op.now c.args.args.now _ _ c.unary.result one c.told-args
    c.requires (c.unary.ensures c.args.inputs.now)

pub returns-in_default : goal.returns-in_default
returns-in_default c =
    let two : arity c.args.op.now ≡ 2 = search rules in
    value-two c.args.inputs.now c.args.room.now c.args.op.now c.args.args.now _ _ _ _ c.binary.result two c.told-args
    c.requires (c.binary.ensures c.args.inputs.now)

pub returns-in-Ite : goal.returns-in-Ite
returns-in-Ite c =
    value-choice c.args.inputs.now c.args.room.now c.args.op.now c.args.args.now _ _ _ _ _ _ c.choice.result c.in-Ite.is
    c.told-args c.requires (c.choice.ensures c.args.inputs.now)
