use Rattle.std.proofs.Common.{subst}
use Rattle.std.proofs.lemmas.Result.{IfOk-weaker}
use Rattle.bv_terms.specs.declared.value.Sort.TheVariants as sort
use Rattle.loc_encode.specs.Truths.{input, Denotes}
use Rattle.loc_encode.specs.Claimed.{claim_in}
use Rattle.loc_encode.proofs.TestLemmas.{IsTest-slot}
use Rattle.loc_encode.proofs.layout.Layout.slot.Goals as goal

pub returns-clause-test : goal.returns-clause-test
returns-clause-test c =
    IfOk-weaker _ _ _ (λ id made.
    IsTest-slot (claim_in c.args.self.now) c.args.terms.now c.input.new.terms id c.args.slot c.requires
    c.input.ensures.extends
    (subst (λ k. Denotes c.input.new.terms id (input k sort.Bool)) c.number.ensures made)) c.input.ensures.made
