use Rattle.std.proofs.lemmas.Result.{IfOk-weaker}
use Rattle.loc_encode.specs.Shape.{have_kinds, are_used_up}
use Rattle.loc_encode.specs.Claimed.{claim_in}
use Rattle.loc_encode.proofs.TestLemmas.{IsTest-kept, IsTest-and}
use Rattle.loc_encode.proofs.layout.Layout.has_kinds.Goals as goal

pub returns-clause-test : goal.returns-clause-test
returns-clause-test c =
    let first = IsTest-kept (claim_in c.args.self.now) _ _ _ _ c.are_used_up.ensures.extends
    c.in_ok-kinds.ensures.test in
    IfOk-weaker _ _ _ (λ id made.
    IsTest-and (claim_in c.args.self.now) _ _ id _ _ (λ g. have_kinds (claim_in c.args.self.now) g)
    (λ g. are_used_up (claim_in c.args.self.now) g) first c.in_ok-right.ensures.test c.and.ensures.extends made)
    c.and.ensures.made
