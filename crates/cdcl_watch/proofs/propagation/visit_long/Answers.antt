use Rattle.std.proofs.Common.{◌≡◌, ◌<◌, ◌∙◌, false, sym, ap, subst, arith, length, List}
use Rattle.std.proofs.lemmas.Result.{IfOk-weaker}
use Rattle.cnf_core.specs.declared.clause.Lit.{Lit}
use Rattle.cnf_core.specs.Clause.{IsOver}
use Rattle.cnf_core.proofs.Over.{over-at}
use Rattle.cdcl_watch.specs.declared.lists.Watcher.{Watcher}
use Rattle.cdcl_watch.specs.Lists.{clause_number, is_short}
use Rattle.cdcl_watch.specs.Watches.{IsOther, AreOthersFalse}
use Rattle.cdcl_watch.specs.Visit.{IsVisit, IsSettled}
use Rattle.cdcl_watch.proofs.LookLemmas.{seen, seen-at, seen-lits, same-read, looked, look-blocked, look-settled}
use Rattle.cdcl_watch.proofs.LookLemmas.{look-moves, code-within}
use Rattle.cdcl_watch.proofs.propagation.visit_long.Goals as goal

pub index-requires-2 : goal.index-requires-2
index-requires-2 c =
    let s = seen c.args.clauses.now c.args.pairs.now.items c.args.lists.now c.args.trail.now c.args.head c.args.untrue
    c.args.list.now.items c.args.cursor c.index.result.now c.requires.visiting c.requires.cursor c.index.ensures in
    let within = s.pair_within in
    omega (arith, within, c.number-number.ensures, c.args.pairs.now.ok.0)

pub is_true-requires : goal.is_true-requires
is_true-requires c =
    let s = seen c.args.clauses.now c.args.pairs.now.items c.args.lists.now c.args.trail.now c.args.head c.args.untrue
    c.args.list.now.items c.args.cursor c.index.result.now c.requires.visiting c.requires.cursor c.index.ensures in
    let other = looked c.args.clauses.now c.args.pairs.now.items c.args.trail.now c.args.untrue c.args.list.now.items
    c.args.cursor c.index.result.now s c.number-number.result c.index-2.result.now c.other_of-other.result
    c.number-number.ensures c.index-2.ensures c.other_of-other.ensures in
    other.there

pub returns-then-is_true : goal.returns-then-is_true
returns-then-is_true c =
    let s = seen c.args.clauses.now c.args.pairs.now.items c.args.lists.now c.args.trail.now c.args.head c.args.untrue
    c.args.list.now.items c.args.cursor c.index.result.now c.requires.visiting c.requires.cursor c.index.ensures in
    let other = looked c.args.clauses.now c.args.pairs.now.items c.args.trail.now c.args.untrue c.args.list.now.items
    c.args.cursor c.index.result.now s c.number-number.result c.index-2.result.now c.other_of-other.result
    c.number-number.ensures c.index-2.ensures c.other_of-other.ensures in
    look-blocked c.args.clauses.now c.args.pairs.now.items c.args.lists.now c.args.trail.now c.args.head c.args.untrue
    c.args.list.now.items c.args.cursor c.index.result.now
    (record { tag = c.index_mut.result.now.tag; blocker = c.other_of-other.result }) c.other_of-other.result
    c.requires.trail c.requires.visiting s other.of.stands (sym c.is_true.ensures ∙ c.if-is_true.true)
    (subst (λ (x : Watcher). is_short x ≡ false)
    (seen-at c.args.clauses.now c.args.pairs.now.items c.args.trail.now c.args.untrue c.args.list.now.items
    c.args.cursor c.index.result.now s) c.requires.long)
    (ap (λ (x : Watcher). let v : Watcher = record { tag = x.tag; blocker = c.other_of-other.result } in v)
    (same-read c.args.list.now.items c.args.cursor c.index_mut.result.now c.index.result.now c.requires.cursor
    c.index_mut.ensures.value c.index.ensures))

pub lits-requires : goal.lits-requires
lits-requires c =
    let s = seen c.args.clauses.now c.args.pairs.now.items c.args.lists.now c.args.trail.now c.args.head c.args.untrue
    c.args.list.now.items c.args.cursor c.index.result.now c.requires.visiting c.requires.cursor c.index.ensures in
    let within = s.clause_within in
    omega (arith, within, c.number-number.ensures)

pub other_watch-requires : goal.other_watch-requires
other_watch-requires c =
    let s = seen c.args.clauses.now c.args.pairs.now.items c.args.lists.now c.args.trail.now c.args.head c.args.untrue
    c.args.list.now.items c.args.cursor c.index.result.now c.requires.visiting c.requires.cursor c.index.ensures in
    let same = seen-lits c.args.clauses.now c.args.pairs.now.items c.args.trail.now c.args.untrue c.args.list.now.items
    c.args.cursor c.index.result.now c.number-number.result c.lits.result.now s c.number-number.ensures
    c.lits.ensures in
    subst (IsOver c.args.trail.now.variables) same s.over

pub move_watch-requires-clause-there : goal.move_watch-requires-clause-there
move_watch-requires-clause-there c =
    let s = seen c.args.clauses.now c.args.pairs.now.items c.args.lists.now c.args.trail.now c.args.head c.args.untrue
    c.args.list.now.items c.args.cursor c.index.result.now c.requires.visiting c.requires.cursor c.index.ensures in
    subst (λ (x : Watcher). clause_number x < length c.args.pairs.now.items)
    (sym (seen-at c.args.clauses.now c.args.pairs.now.items c.args.trail.now c.args.untrue c.args.list.now.items
    c.args.cursor c.index.result.now s)) s.pair_within

pub move_watch-requires-clause-list : goal.move_watch-requires-clause-list
move_watch-requires-clause-list c =
    let s = seen c.args.clauses.now c.args.pairs.now.items c.args.lists.now c.args.trail.now c.args.head c.args.untrue
    c.args.list.now.items c.args.cursor c.index.result.now c.requires.visiting c.requires.cursor c.index.ensures in
    let same = seen-lits c.args.clauses.now c.args.pairs.now.items c.args.trail.now c.args.untrue c.args.list.now.items
    c.args.cursor c.index.result.now c.number-number.result c.lits.result.now s c.number-number.ensures
    c.lits.ensures in
    let found = c.in-Some.ensures.some in
    let sized = c.requires.visiting.sized in
    let below = code-within c.in-Some.lit c.args.trail.now.variables
    (over-at c.args.trail.now.variables c.lits.result.now c.in-Some.lit
    (subst (IsOver c.args.trail.now.variables) same s.over) found.stands) in
    omega (arith, below, sized)

pub returns-in-Some : goal.returns-in-Some
returns-in-Some c =
    let s = seen c.args.clauses.now c.args.pairs.now.items c.args.lists.now c.args.trail.now c.args.head c.args.untrue
    c.args.list.now.items c.args.cursor c.index.result.now c.requires.visiting c.requires.cursor c.index.ensures in
    let other = looked c.args.clauses.now c.args.pairs.now.items c.args.trail.now c.args.untrue c.args.list.now.items
    c.args.cursor c.index.result.now s c.number-number.result c.index-2.result.now c.other_of-other.result
    c.number-number.ensures c.index-2.ensures c.other_of-other.ensures in
    let same = seen-lits c.args.clauses.now c.args.pairs.now.items c.args.trail.now c.args.untrue c.args.list.now.items
    c.args.cursor c.index.result.now c.number-number.result c.lits.result.now s c.number-number.ensures
    c.lits.ensures in
    look-moves c.args.clauses.now c.args.pairs.now.items c.move_watch.new.pairs.items c.args.lists.now
    c.move_watch.new.lists c.args.trail.now c.args.head c.args.untrue c.args.list.now.items
    c.move_watch.new.list.items c.args.cursor c.index.result.now c.index-2.result.now c.other_of-other.result
    c.in-Some.lit c.requires.trail c.requires.visiting s c.requires.long other
    (subst (λ (ls : List Lit). IsOther c.args.trail.now.lits ls c.other_of-other.result c.in-Some.lit) (sym same)
    c.in-Some.ensures.some)
    c.in_ok-move_watch.ensures.pairs c.move_watch.ensures.list c.move_watch.ensures.length
    c.in_ok-move_watch.ensures.lists

pub settle-requires-clause-there : goal.settle-requires-clause-there
settle-requires-clause-there c =
    let s = seen c.args.clauses.now c.args.pairs.now.items c.args.lists.now c.args.trail.now c.args.head c.args.untrue
    c.args.list.now.items c.args.cursor c.index.result.now c.requires.visiting c.requires.cursor c.index.ensures in
    let other = looked c.args.clauses.now c.args.pairs.now.items c.args.trail.now c.args.untrue c.args.list.now.items
    c.args.cursor c.index.result.now s c.number-number.result c.index-2.result.now c.other_of-other.result
    c.number-number.ensures c.index-2.ensures c.other_of-other.ensures in
    other.there

pub returns : goal.returns
returns c =
    let s = seen c.args.clauses.now c.args.pairs.now.items c.args.lists.now c.args.trail.now c.args.head c.args.untrue
    c.args.list.now.items c.args.cursor c.index.result.now c.requires.visiting c.requires.cursor c.index.ensures in
    let other = looked c.args.clauses.now c.args.pairs.now.items c.args.trail.now c.args.untrue c.args.list.now.items
    c.args.cursor c.index.result.now s c.number-number.result c.index-2.result.now c.other_of-other.result
    c.number-number.ensures c.index-2.ensures c.other_of-other.ensures in
    let same = seen-lits c.args.clauses.now c.args.pairs.now.items c.args.trail.now c.args.untrue c.args.list.now.items
    c.args.cursor c.index.result.now c.number-number.result c.lits.result.now s c.number-number.ensures
    c.lits.ensures in
    IfOk-weaker c.settle.result
    (IsSettled c.args.trail.now c.settle.new.trail c.other_of-other.result c.number-number.result)
    (IsVisit c.args.clauses.now c.args.pairs.now.items c.args.lists.now c.args.trail.now c.settle.new.trail c.args.head
    c.args.untrue c.args.list.now.items c.args.list.now.items c.args.cursor)
    (λ visit settled. look-settled c.args.clauses.now c.args.pairs.now.items c.args.lists.now c.args.trail.now
    c.settle.new.trail c.args.head c.args.untrue c.args.list.now.items c.args.cursor c.index.result.now
    c.other_of-other.result c.number-number.result visit c.requires.trail c.settle.ensures.trail
    c.requires.visiting s other.of.stands
    (subst (λ (ls : List Lit). AreOthersFalse c.args.trail.now.lits ls c.other_of-other.result) (sym same)
    c.in_default.ensures.none)
    c.number-number.ensures settled)
    c.settle.ensures.settled
