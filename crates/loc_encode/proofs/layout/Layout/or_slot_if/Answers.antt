use Rattle.std.proofs.Common.{◌&&◌, ◌||◌, sym, subst}
use Rattle.std.proofs.lemmas.Result.{IfOk-weaker}
use Rattle.loc_encode.specs.Tests.{IsTest}
use Rattle.loc_encode.specs.Claimed.{claim_in}
use Rattle.loc_encode.proofs.TestLemmas.{IsTest-kept, IsTest-or}
use Rattle.loc_encode.proofs.layout.Layout.or_slot_if.Goals as goal

pub returns-in_ok-chosen-clause-test : goal.returns-in_ok-chosen-clause-test
returns-in_ok-chosen-clause-test c = λ f test.
    IfOk-weaker _ _ _ (λ id made.
    subst (λ b. IsTest (claim_in c.args.self.now) c.or.new.terms id (λ g. f g || (b && g c.args.slot)))
    (sym c.if-is_sought.true)
    (IsTest-or (claim_in c.args.self.now) _ _ id _ _ f (λ g. g c.args.slot)
    (IsTest-kept (claim_in c.args.self.now) _ _ _ f c.slot.ensures.extends test) c.in_ok-chosen.ensures.test
    c.or.ensures.extends made)) c.or.ensures.made
