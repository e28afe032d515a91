use Rattle.std.proofs.Common.{◌≡◌, ◌∙◌, Some, sym, ap, arith, length, slice_get, refl}
use Rattle.list_lemmas.proofs.Lookups.{All-slice_get}
use Rattle.cnf_core.specs.declared.clause.Clause.{Clause}
use Rattle.cnf_core.specs.Clause.{IsOver, same_lit}
use Rattle.cnf_core.specs.Resolution.{clause}
use Rattle.cnf_core.proofs.Over.{over-at}
use Rattle.cdcl_watch.proofs.LookLemmas.{code-within}
use Rattle.cdcl_watch.proofs.SearchSteps.{next-of}
use Rattle.cdcl_watch.proofs.RootLemmas.{attaching-pair, attaching-true, root-conflict, attaching-forced, not-true}
use Rattle.cdcl_watch.proofs.RootLemmas.{not-false}
use Rattle.cdcl_watch.proofs.attach.attach_next.Goals as goal

pub watch-requires-clause-first : goal.watch-requires-clause-first
watch-requires-clause-first c =
    let over : IsOver c.args.trail.now.variables c.lits-lits.result.now =
    All-slice_get (λ (x : Clause). IsOver c.args.trail.now.variables x.lits) c.args.clauses.now c.len-number.result
    (clause c.lits-lits.result.now) c.requires.over c.lits-lits.ensures in
    let sized = c.requires.attaching.sized in
    let below = code-within c.pair_of-pair.result.first c.args.trail.now.variables
    (over-at c.args.trail.now.variables c.lits-lits.result.now c.pair_of-pair.result.first over
    c.pair_of-pair.ensures.stands) in
    omega (arith, below, sized)

pub watch-requires-clause-second : goal.watch-requires-clause-second
watch-requires-clause-second c =
    let over : IsOver c.args.trail.now.variables c.lits-lits.result.now =
    All-slice_get (λ (x : Clause). IsOver c.args.trail.now.variables x.lits) c.args.clauses.now c.len-number.result
    (clause c.lits-lits.result.now) c.requires.over c.lits-lits.ensures in
    let sized = c.requires.attaching.sized in
    let is = c.pair_of-pair.ensures.two
    (not-true (same_lit c.pair_of-pair.result.first c.pair_of-pair.result.second) (sym c.ne.ensures ∙ c.if-ne.true)) in
    let below = code-within c.pair_of-pair.result.second c.args.trail.now.variables
    (over-at c.args.trail.now.variables c.lits-lits.result.now c.pair_of-pair.result.second over is.second) in
    omega (arith, below, sized)

pub returns-then-ne-clause-none : goal.returns-then-ne-clause-none
returns-then-ne-clause-none c =
    let number : c.len-number.result ≡ length c.args.pairs.now.items =
    omega (arith, c.len-number.ensures, c.args.pairs.now.ok.0) in
    let there : slice_get c.args.clauses.now (length c.args.pairs.now.items) ≡ Some (clause c.lits-lits.result.now) =
    ap (slice_get c.args.clauses.now) (sym number) ∙ c.lits-lits.ensures in
    let is = c.pair_of-pair.ensures.two
    (not-true (same_lit c.pair_of-pair.result.first c.pair_of-pair.result.second) (sym c.ne.ensures ∙ c.if-ne.true)) in
    attaching-pair c.args.clauses.now c.args.pairs.now.items c.watch.new.pairs.items c.args.lists.now c.watch.new.lists
    c.args.trail.now c.pair_of-pair.result (clause c.lits-lits.result.now) c.requires.attaching there is
    c.in_ok-watch.ensures.pairs c.watch.ensures.length
    (c.in_ok-watch.ensures.lists c.args.clauses.now
    (next-of c.args.clauses.now c.args.pairs.now.items c.lits-lits.result.now c.pair_of-pair.result
    (length c.lits-lits.result.now) there is refl)
    c.requires.attaching.listed)

pub is_true-requires : goal.is_true-requires
is_true-requires c =
    let over : IsOver c.args.trail.now.variables c.lits-lits.result.now =
    All-slice_get (λ (x : Clause). IsOver c.args.trail.now.variables x.lits) c.args.clauses.now c.len-number.result
    (clause c.lits-lits.result.now) c.requires.over c.lits-lits.ensures in
    over-at c.args.trail.now.variables c.lits-lits.result.now c.pair_of-pair.result.first over
    c.pair_of-pair.ensures.stands

pub returns-then-is_true-clause-none : goal.returns-then-is_true-clause-none
returns-then-is_true-clause-none c =
    let number : c.len-number.result ≡ length c.args.pairs.now.items =
    omega (arith, c.len-number.ensures, c.args.pairs.now.ok.0) in
    let there : slice_get c.args.clauses.now (length c.args.pairs.now.items) ≡ Some (clause c.lits-lits.result.now) =
    ap (slice_get c.args.clauses.now) (sym number) ∙ c.lits-lits.ensures in
    attaching-true c.args.clauses.now c.args.pairs.now.items c.push.new.self.items c.args.lists.now c.args.trail.now
    c.pair_of-pair.result (clause c.lits-lits.result.now) c.requires.attaching there c.pair_of-pair.ensures
    (not-false (same_lit c.pair_of-pair.result.first c.pair_of-pair.result.second) (sym c.ne.ensures ∙ c.if-ne.false))
    c.in_ok-push.ensures.items (sym c.is_true.ensures ∙ c.if-is_true.true)

pub is_false-requires : goal.is_false-requires
is_false-requires c =
    let over : IsOver c.args.trail.now.variables c.lits-lits.result.now =
    All-slice_get (λ (x : Clause). IsOver c.args.trail.now.variables x.lits) c.args.clauses.now c.len-number.result
    (clause c.lits-lits.result.now) c.requires.over c.lits-lits.ensures in
    over-at c.args.trail.now.variables c.lits-lits.result.now c.pair_of-pair.result.first over
    c.pair_of-pair.ensures.stands

pub returns-then-is_false-clause-some : goal.returns-then-is_false-clause-some
returns-then-is_false-clause-some c =
    root-conflict c.args.clauses.now c.args.pairs.now.items c.args.lists.now c.args.trail.now c.pair_of-pair.result
    (clause c.lits-lits.result.now) c.len-number.result c.requires.attaching c.lits-lits.ensures c.pair_of-pair.ensures
    (not-false (same_lit c.pair_of-pair.result.first c.pair_of-pair.result.second) (sym c.ne.ensures ∙ c.if-ne.false))
    (sym c.is_false.ensures ∙ c.if-is_false.true)

pub assign-requires-clause-there : goal.assign-requires-clause-there
assign-requires-clause-there c =
    let over : IsOver c.args.trail.now.variables c.lits-lits.result.now =
    All-slice_get (λ (x : Clause). IsOver c.args.trail.now.variables x.lits) c.args.clauses.now c.len-number.result
    (clause c.lits-lits.result.now) c.requires.over c.lits-lits.ensures in
    over-at c.args.trail.now.variables c.lits-lits.result.now c.pair_of-pair.result.first over
    c.pair_of-pair.ensures.stands

pub returns-clause-none : goal.returns-clause-none
returns-clause-none c =
    let number : c.len-number.result ≡ length c.args.pairs.now.items =
    omega (arith, c.len-number.ensures, c.args.pairs.now.ok.0) in
    let there : slice_get c.args.clauses.now (length c.args.pairs.now.items) ≡ Some (clause c.lits-lits.result.now) =
    ap (slice_get c.args.clauses.now) (sym number) ∙ c.lits-lits.ensures in
    attaching-forced c.args.clauses.now c.args.pairs.now.items c.push.new.self.items c.args.lists.now c.args.trail.now
    c.assign.new.self c.pair_of-pair.result (clause c.lits-lits.result.now) c.len-number.result c.requires.attaching
    there c.pair_of-pair.ensures
    (not-false (same_lit c.pair_of-pair.result.first c.pair_of-pair.result.second) (sym c.ne.ensures ∙ c.if-ne.false))
    c.in_ok-push.ensures.items number c.assign.ensures.trail c.in_ok-assign.ensures.ok
