use Rattle.std.proofs.Common.{◌≡◌, ◌∙◌, false, sym, subst}
use Rattle.std.proofs.lemmas.Result.{IfOk-weaker}
use Rattle.cdcl_watch.specs.declared.lists.Watcher.{Watcher}
use Rattle.cdcl_watch.specs.Lists.{is_short}
use Rattle.cdcl_watch.specs.Visit.{IsVisit, IsSettled}
use Rattle.cdcl_watch.proofs.LookLemmas.{seen, seen-at, look-true, look-settled, short-others}
use Rattle.cdcl_watch.proofs.propagation.visit_watcher.Goals as goal

pub is_true-requires : goal.is_true-requires
is_true-requires c =
    (seen c.args.clauses.now c.args.pairs.now.items c.args.lists.now c.args.trail.now c.args.head c.args.untrue
    c.args.list.now.items c.args.cursor c.index-watcher.result.now c.requires.visiting c.requires.cursor
    c.index-watcher.ensures).blocker

pub returns-then-is_true : goal.returns-then-is_true
returns-then-is_true c =
    let s = seen c.args.clauses.now c.args.pairs.now.items c.args.lists.now c.args.trail.now c.args.head c.args.untrue
    c.args.list.now.items c.args.cursor c.index-watcher.result.now c.requires.visiting c.requires.cursor
    c.index-watcher.ensures in
    look-true c.args.clauses.now c.args.pairs.now.items c.args.lists.now c.args.trail.now c.args.head c.args.untrue
    c.args.list.now.items c.args.cursor c.index-watcher.result.now c.index-watcher.result.now.blocker c.requires.trail
    c.requires.visiting s s.is.blocker (sym c.is_true.ensures ∙ c.if-is_true.true)

pub settle-requires-clause-there : goal.settle-requires-clause-there
settle-requires-clause-there c =
    (seen c.args.clauses.now c.args.pairs.now.items c.args.lists.now c.args.trail.now c.args.head c.args.untrue
    c.args.list.now.items c.args.cursor c.index-watcher.result.now c.requires.visiting c.requires.cursor
    c.index-watcher.ensures).blocker

pub returns-then-is_short : goal.returns-then-is_short
returns-then-is_short c =
    let s = seen c.args.clauses.now c.args.pairs.now.items c.args.lists.now c.args.trail.now c.args.head c.args.untrue
    c.args.list.now.items c.args.cursor c.index-watcher.result.now c.requires.visiting c.requires.cursor
    c.index-watcher.ensures in
    IfOk-weaker c.settle.result
    (IsSettled c.args.trail.now c.settle.new.trail c.index-watcher.result.now.blocker c.number.result)
    (IsVisit c.args.clauses.now c.args.pairs.now.items c.args.lists.now c.args.trail.now c.settle.new.trail c.args.head
    c.args.untrue c.args.list.now.items c.args.list.now.items c.args.cursor)
    (λ visit settled. look-settled c.args.clauses.now c.args.pairs.now.items c.args.lists.now c.args.trail.now
    c.settle.new.trail c.args.head c.args.untrue c.args.list.now.items c.args.cursor c.index-watcher.result.now
    c.index-watcher.result.now.blocker c.number.result visit c.requires.trail c.settle.ensures.trail
    c.requires.visiting s s.is.blocker
    (short-others c.args.clauses.now c.args.pairs.now.items c.args.lists.now c.args.trail.now c.args.head c.args.untrue
    c.args.list.now.items c.args.cursor c.index-watcher.result.now c.requires.visiting s
    (sym c.is_short.ensures ∙ c.if-is_short.true))
    c.number.ensures settled)
    c.settle.ensures.settled

pub visit_long-requires-clause-long : goal.visit_long-requires-clause-long
visit_long-requires-clause-long c =
    let s = seen c.args.clauses.now c.args.pairs.now.items c.args.lists.now c.args.trail.now c.args.head c.args.untrue
    c.args.list.now.items c.args.cursor c.index-watcher.result.now c.requires.visiting c.requires.cursor
    c.index-watcher.ensures in
    subst (λ (x : Watcher). is_short x ≡ false)
    (sym (seen-at c.args.clauses.now c.args.pairs.now.items c.args.trail.now c.args.untrue c.args.list.now.items
    c.args.cursor c.index-watcher.result.now s))
    (sym c.is_short.ensures ∙ c.if-is_short.false)
