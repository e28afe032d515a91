use Rattle.std.proofs.Common.{get_or, sym, ap, ◌∙◌, subst}
use Rattle.pattern_core.specs.declared.pattern.Node.{Node}
use Rattle.pattern_core.specs.Pattern.{IsAmong}
use Rattle.pattern_core.proofs.FitLemmas.{used-answer}
use Rattle.std.proofs.lemmas.List.Elements.{All-more}
use Rattle.pattern_core.proofs.well_formed.is_used.Goals as goal
use Rattle.list_lemmas.proofs.Bools.{not_by_test as never}

pub loop-other-preserved : goal.loop-other-preserved
loop-other-preserved c =
    let nodes = c.as_slice-other-items.result.now in
    let item = c.other-item.result in
    let here : IsAmong c.args.node (get_or nodes c.loop-other.other-index item).args → ⊥ =
    λ h. never c.is_among.result c.if-is_among.false c.is_among.ensures
    (subst (IsAmong c.args.node) (sym (c.as_slice.ensures ∙ ap (λ (n : Node). n.args) c.other-item.is)) h) in
    All-more (λ (n : Node). IsAmong c.args.node n.args → ⊥) nodes c.loop-other.other-index item c.loop-other-test.true
    c.loop-other.invariant here

pub returns : goal.returns
returns c =
    used-answer c.args.pattern.now c.args.node c.as_slice-other-items.result.now c.as_slice-2.result.now
    c.loop-other.other-index c.is_among-2.result c.as_slice-other-items.ensures c.as_slice-2.ensures
    c.loop-other-test.false c.loop-other.invariant c.is_among-2.ensures
