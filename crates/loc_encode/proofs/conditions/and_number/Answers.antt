use Rattle.std.proofs.lemmas.Result.{IfOk-weaker}
use Rattle.bv_terms.proofs.GraftLemmas.{Extends-further}
use Rattle.loc_encode.specs.Matching.{IsNumber}
use Rattle.loc_encode.proofs.ConditionLemmas.{both-and, test-number}
use Rattle.loc_encode.proofs.conditions.and_number.Goals as goal

pub returns-clause-both : goal.returns-clause-both
returns-clause-both c = λ claim is.
    let test =
    test-number claim c.args.terms.now c.made.new.terms c.made-2.new.terms c.made-3.new.terms c.number.result
    c.args.width c.args.number c.in_ok-value.value c.in_ok-constant.constant c.in_ok-equal.equal c.args.attribute
    c.number.ensures is c.in_ok-value.ensures.made c.made-2.ensures.extends c.in_ok-constant.ensures.made
    c.in_ok-equal.ensures.made in
    let grown =
    Extends-further c.args.terms.now c.made-2.new.terms c.made-3.new.terms
    (Extends-further c.args.terms.now c.made.new.terms c.made-2.new.terms c.made.ensures.extends
    c.made-2.ensures.extends) c.made-3.ensures.extends in
    IfOk-weaker c.made-4.result _ _ (λ at made. both-and claim c.args.terms.now c.made-3.new.terms c.made-4.new.terms
    c.args.earlier c.in_ok-equal.equal at (IsNumber c.args.attribute c.args.width c.args.number) grown c.requires made
    test) c.made-4.ensures.made
