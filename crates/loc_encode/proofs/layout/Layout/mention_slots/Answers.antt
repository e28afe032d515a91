use Rattle.std.proofs.Common.{◌≡◌, subst, arith}
use Rattle.bv_terms.proofs.GraftLemmas.{Extends-further}
use Rattle.loc_encode.specs.Mentions.{MentionsBelow}
use Rattle.loc_encode.specs.Claimed.{claim_in}
use Rattle.loc_encode.proofs.SlotSortLemmas.{mention-first, mention-more}
use Rattle.loc_encode.proofs.layout.Layout.mention_slots.Goals as goal

pub loop-number-init : goal.loop-number-init
loop-number-init c = mention-first (claim_in c.args.self.now) _ _ c.requires.there

pub mention_number-requires-clause-there : goal.mention_number-requires-clause-there
mention_number-requires-clause-there c = c.loop-number.invariant.there

pub returns-in_err-all-clause-extends : goal.returns-in_err-all-clause-extends
returns-in_err-all-clause-extends c =
    let keeps = c.loop-number.invariant.keeps in
    Extends-further _ _ _ keeps.extends c.mention_number.ensures.extends

pub loop-number-preserved : goal.loop-number-preserved
loop-number-preserved c =
    let told = c.in_ok-all.ensures in
    mention-more (claim_in c.args.self.now) _ _ _ _ _ _ c.loop-number.number c.loop-number.invariant told.keeps
    told.there
    told.mentions

pub returns-clause-extends : goal.returns-clause-extends
returns-clause-extends c = let keeps = c.loop-number.invariant.keeps in keeps.extends

pub returns-clause-mentions : goal.returns-clause-mentions
returns-clause-mentions c =
    let last : c.loop-number.number ≡ 1746 = omega (arith, c.loop-number-test.false, c.loop-number.auto.number-end) in
    subst (λ n. MentionsBelow (claim_in c.args.self.now) c.args.terms.now c.args.formula c.loop-number.terms
    c.loop-number.all n) last
    c.loop-number.invariant
