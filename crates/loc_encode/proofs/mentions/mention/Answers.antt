use Rattle.std.proofs.Common.{subst}
use Rattle.std.proofs.lemmas.Result.{IfOk-weaker}
use Rattle.loc_encode.specs.Truths.{input, Denotes}
use Rattle.loc_encode.proofs.MentionLemmas.{mention-keeps, mention-mentions}
use Rattle.loc_encode.proofs.mentions.mention.Goals as goal

pub returns-clause-keeps : goal.returns-clause-keeps
returns-clause-keeps c = λ claim is sized.
    let value = subst (λ n. Denotes c.input.new.terms c.in_ok-value.value (input n c.args.sort)) c.number.ensures
    c.in_ok-value.ensures.made in
    IfOk-weaker _ _ _ (λ id made.
    mention-keeps claim c.args.terms.now c.input.new.terms c.equal.new.terms c.and.new.terms c.args.all
    c.in_ok-value.value c.in_ok-same.same id c.args.slot c.args.sort is sized c.requires c.input.ensures.extends value
    c.equal.ensures.extends c.in_ok-same.ensures.made c.and.ensures.extends made) c.and.ensures.made

pub returns-clause-mentions : goal.returns-clause-mentions
returns-clause-mentions c =
    let value = subst (λ n. Denotes c.input.new.terms c.in_ok-value.value (input n c.args.sort)) c.number.ensures
    c.in_ok-value.ensures.made in
    IfOk-weaker _ _ _ (λ id made.
    mention-mentions c.args.terms.now c.input.new.terms c.equal.new.terms c.and.new.terms c.args.all
    c.in_ok-value.value c.in_ok-same.same id c.args.slot c.args.sort c.requires c.input.ensures.extends value
    c.equal.ensures.extends c.in_ok-same.ensures.made c.and.ensures.extends made) c.and.ensures.made
