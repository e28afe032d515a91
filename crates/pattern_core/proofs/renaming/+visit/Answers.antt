use Rattle.std.proofs.Common.{◌≡◌, refl, sym, ap, ◌∙◌, arith, length, get_or, nat_eq, true, false}
use Rattle.std.specs.List.{list_any}
use Rattle.std.proofs.lemmas.List.Elements.{All-get_or}
use Rattle.pattern_core.specs.declared.pattern.Src.TheVariants.{Input}
use Rattle.pattern_core.specs.Walk.{IsBefore}
use Rattle.pattern_core.proofs.WalkLemmas.{IsEntered-from, depth_of-falls, IsBefore-more}
use Rattle.pattern_core.proofs.OrderOfWalk.{HasLeft-more, HasLeft-end, left-input, left-seen, left-new}
use Rattle.pattern_core.proofs.renaming.+visit.Goals as goal

pub returns-in_default : goal.returns-in_default
returns-in_default t c = λ deep b.
    left-input c.args.nodes.now c.args.left.now.items c.in_default.field-0 c.args.source c.in_default.is deep

pub returns-then-is_among : goal.returns-then-is_among
returns-then-is_among t c =
    let left = c.args.left.now.items in
    let seen : list_any (nat_eq c.in-Out.node) left ≡ true =
    sym (c.is_among.ensures ∙ ap (list_any (nat_eq c.in-Out.node)) c.as_slice.ensures.value) ∙ c.if-is_among.true in
    left-seen c.args.nodes.now left c.in-Out.node c.in-Out.result c.args.source c.in-Out.is seen

pub visit-requires : goal.visit-requires
visit-requires t c =
    let nodes = c.args.nodes.now in
    let args = c.as_slice-arguments.result.now in
    let m = c.index-nodes-from.result in
    let e =
    IsEntered-from nodes 0 c.in-Out.node c.in-Out.node c.in-Out.result c.args.source args m c.requires.forward
    c.requires.there c.in-Out.is refl
    (omega arith) (c.index-nodes-from.is ∙ ap (λ k. get_or nodes k m) c.from.ensures)
    (c.as_slice-arguments.ensures ∙ ap (λ k. (get_or nodes k m).args) c.from.ensures) in
    let argument = get_or args c.loop-argument.argument-index (Input 0) in
    let before =
    All-get_or (IsBefore c.in-Out.node) args c.loop-argument.argument-index
    (Input 0) c.loop-argument-test.true e.before in
    let falls = depth_of-falls c.in-Out.node c.args.source argument e.result e.is before in
    let h = c.decreases in (
      omega (arith, falls, h),
      (
        c.requires.forward,
        IsBefore-more c.in-Out.node (length nodes) argument (omega (arith, e.within)) before,
      ),
    )

pub loop-argument-preserved : goal.loop-argument-preserved
loop-argument-preserved t c =
    let nodes = c.args.nodes.now in
    let args = c.as_slice-arguments.result.now in
    let m = c.index-nodes-from.result in
    let e =
    IsEntered-from nodes 0 c.in-Out.node c.in-Out.node c.in-Out.result c.args.source args m c.requires.forward
    c.requires.there c.in-Out.is refl
    (omega arith) (c.index-nodes-from.is ∙ ap (λ k. get_or nodes k m) c.from.ensures)
    (c.as_slice-arguments.ensures ∙ ap (λ k. (get_or nodes k m).args) c.from.ensures) in
    HasLeft-more nodes c.in-Out.node c.args.left.now.items c.loop-argument.left.items c.visit.new.left.items args
    c.loop-argument.argument-index
    (Input 0) c.loop-argument.invariant c.loop-argument-test.true e.before c.in_ok-visit.ensures

pub returns : goal.returns
returns t c = λ deep b.
    let nodes = c.args.nodes.now in
    let left = c.args.left.now.items in
    let args = c.as_slice-arguments.result.now in
    let m = c.index-nodes-from.result in
    let e =
    IsEntered-from nodes 0 c.in-Out.node c.in-Out.node c.in-Out.result c.args.source args m c.requires.forward
    c.requires.there c.in-Out.is refl
    (omega arith) (c.index-nodes-from.is ∙ ap (λ k. get_or nodes k m) c.from.ensures)
    (c.as_slice-arguments.ensures ∙ ap (λ k. (get_or nodes k m).args) c.from.ensures) in
    let new : list_any (nat_eq c.in-Out.node) left ≡ false =
    sym (c.is_among.ensures ∙ ap (list_any (nat_eq c.in-Out.node)) c.as_slice.ensures.value) ∙ c.if-is_among.false in
    let done =
    HasLeft-end nodes c.in-Out.node left c.loop-argument.left.items args c.loop-argument.argument-index
    c.loop-argument.invariant c.loop-argument-test.false in
    c.in_ok-push.ensures.items
    ∙ left-new nodes left c.loop-argument.left.items c.in-Out.node e.result c.args.source args e.is new e.args_are done
    deep b
