use Rattle.std.proofs.lemmas.Result.{IfOk-weaker}
use Rattle.loc_encode.specs.Matching.{IsSet}
use Rattle.loc_encode.proofs.ConditionLemmas.{both-and, test-choice}
use Rattle.loc_encode.proofs.conditions.and_choice.Goals as goal

pub returns-clause-both : goal.returns-clause-both
returns-clause-both c = λ claim is.
    let test =
    test-choice claim c.args.terms.now c.made.new.terms c.number.result c.in_ok-chosen.chosen c.args.choice
    c.number.ensures is c.in_ok-chosen.ensures.made in
    IfOk-weaker c.made-2.result _ _ (λ at made. both-and claim c.args.terms.now c.made.new.terms c.made-2.new.terms
    c.args.earlier c.in_ok-chosen.chosen at (IsSet c.args.choice) c.made.ensures.extends c.requires made test)
    c.made-2.ensures.made
