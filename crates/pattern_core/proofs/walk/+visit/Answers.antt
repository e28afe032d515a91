use Rattle.std.proofs.Common.{◌≡◌, arith, length, subst, sym, get_or, None}
use Rattle.pattern_core.specs.declared.pattern.Src.TheVariants.{Input}
use Rattle.pattern_core.specs.Walk.{walk, below, IsBefore, IsCounted}
use Rattle.pattern_core.proofs.WalkLemmas.{HasWalked-start, HasWalked-more, HasWalked-fails, HasWalked-end}
use Rattle.pattern_core.proofs.WalkLemmas.{IsEntered-from, counted-input, counted-seen, counted-fails}
use Rattle.pattern_core.proofs.WalkLemmas.{counted-out_of_turn, counted-in_turn, depth_of-falls, IsBefore-more}
use Rattle.std.proofs.lemmas.List.Elements.{All-get_or}
use Rattle.pattern_core.proofs.walk.+visit.Goals as goal

pub returns-in_default-clause-walked : goal.returns-in_default-clause-walked
returns-in_default-clause-walked t c =
    counted-input c.args.nodes.now c.args.count c.in_default.field-0 c.args.source c.in_default.is

pub returns-then-node-count-clause-walked : goal.returns-then-node-count-clause-walked
returns-then-node-count-clause-walked t c =
    counted-seen c.args.nodes.now c.args.count c.from-node.result c.in-Out.node c.in-Out.result c.args.source
    c.in-Out.is c.from-node.ensures c.if-node-count.true

pub loop-argument-init : goal.loop-argument-init
loop-argument-init t c =
    HasWalked-start c.args.nodes.now c.from-node.result c.args.count c.as_slice-arguments.result.now c.requires.within

pub visit-requires : goal.visit-requires
visit-requires t c =
    let nodes = c.args.nodes.now in
    let args = c.as_slice-arguments.result.now in
    let e =
    IsEntered-from nodes c.args.count c.from-node.result c.in-Out.node c.in-Out.result c.args.source args
    c.index-nodes-node.result c.requires.forward c.requires.there c.in-Out.is c.from-node.ensures
    c.if-node-count.false c.index-nodes-node.is c.as_slice-arguments.ensures in
    let argument = get_or args c.loop-argument.argument-index (Input 0) in
    let before =
    All-get_or (IsBefore c.from-node.result) args c.loop-argument.argument-index
    (Input 0) c.loop-argument-test.true e.before in
    let falls = depth_of-falls c.from-node.result c.args.source argument e.result e.is before in
    let h = c.decreases in (
      omega (arith, falls, h),
      (
        c.requires.forward,
        (
          IsBefore-more c.from-node.result (length nodes) argument (omega (arith, e.within)) before,
          c.loop-argument.invariant.within,
        ),
      ),
    )

pub returns-in_err-left-clause-walked : goal.returns-in_err-left-clause-walked
returns-in_err-left-clause-walked t c =
    let nodes = c.args.nodes.now in
    let args = c.as_slice-arguments.result.now in
    let e =
    IsEntered-from nodes c.args.count c.from-node.result c.in-Out.node c.in-Out.result c.args.source args
    c.index-nodes-node.result c.requires.forward c.requires.there c.in-Out.is c.from-node.ensures
    c.if-node-count.false c.index-nodes-node.is c.as_slice-arguments.ensures in
    let out =
    HasWalked-fails nodes c.from-node.result c.args.count c.loop-argument.left args c.loop-argument.argument-index
    (Input 0) c.loop-argument.invariant c.loop-argument-test.true e.before c.in_err-left.ensures.walked in
    let none : c.from_residual.result ≡ None = cc in
    λ deep b. subst (IsCounted (walk deep nodes (below c.args.count) c.args.source)) (sym none)
    (counted-fails nodes c.args.count c.from-node.result c.args.source args e out deep b)

pub loop-argument-preserved : goal.loop-argument-preserved
loop-argument-preserved t c =
    let nodes = c.args.nodes.now in
    let args = c.as_slice-arguments.result.now in
    let e =
    IsEntered-from nodes c.args.count c.from-node.result c.in-Out.node c.in-Out.result c.args.source args
    c.index-nodes-node.result c.requires.forward c.requires.there c.in-Out.is c.from-node.ensures
    c.if-node-count.false c.index-nodes-node.is c.as_slice-arguments.ensures in
    HasWalked-more nodes c.from-node.result c.args.count c.loop-argument.left c.in_ok-left.left args
    c.loop-argument.argument-index
    (Input 0) c.loop-argument.invariant c.loop-argument-test.true e.before c.in_ok-left.ensures.within
    c.in_ok-left.ensures.walked

pub returns-then-left-node-clause-walked : goal.returns-then-left-node-clause-walked
returns-then-left-node-clause-walked t c =
    let nodes = c.args.nodes.now in
    let args = c.as_slice-arguments.result.now in
    let e =
    IsEntered-from nodes c.args.count c.from-node.result c.in-Out.node c.in-Out.result c.args.source args
    c.index-nodes-node.result c.requires.forward c.requires.there c.in-Out.is c.from-node.ensures
    c.if-node-count.false c.index-nodes-node.is c.as_slice-arguments.ensures in
    let done =
    HasWalked-end nodes c.from-node.result c.args.count c.loop-argument.left args c.loop-argument.argument-index
    c.loop-argument.invariant c.loop-argument-test.false in
    counted-out_of_turn nodes c.args.count c.from-node.result c.loop-argument.left c.args.source args e done
    c.if-left-node.true

pub returns-clause-walked : goal.returns-clause-walked
returns-clause-walked t c =
    let nodes = c.args.nodes.now in
    let args = c.as_slice-arguments.result.now in
    let e =
    IsEntered-from nodes c.args.count c.from-node.result c.in-Out.node c.in-Out.result c.args.source args
    c.index-nodes-node.result c.requires.forward c.requires.there c.in-Out.is c.from-node.ensures
    c.if-node-count.false c.index-nodes-node.is c.as_slice-arguments.ensures in
    let done =
    HasWalked-end nodes c.from-node.result c.args.count c.loop-argument.left args c.loop-argument.argument-index
    c.loop-argument.invariant c.loop-argument-test.false in
    counted-in_turn nodes c.args.count c.from-node.result c.loop-argument.left c.args.source args e done
    c.if-left-node.false
