use Rattle.std.proofs.Common.{◌≡◌, ◌∙◌, Some, sym, ap, get_or, arith, subst}
use Rattle.std.proofs.lemmas.Option.{slice_get-get_or}
use Rattle.cnf_core.specs.Clause.{opposite}
use Rattle.cnf_core.proofs.Sets.{opposite-opposite}
use Rattle.cdcl_base.proofs.TrailLemmas.{ExtendsTrail-itself}
use Rattle.cdcl_watch.proofs.WatchLemmas.{visiting-begins, visiting-ends}
use Rattle.cdcl_watch.proofs.propagation.propagate_head.Goals as goal

pub loop-cursor-init : goal.loop-cursor-init
loop-cursor-init c = record {
  trail = c.lits.ensures.trail;
  extends = ExtendsTrail-itself c.args.trail.now;
  visiting = visiting-begins c.args.clauses.now c.args.pairs.now.items c.args.lists.now c.take-list.new.self
      c.args.trail.now c.args.head c.opposite-untrue.result c.take-list.result.items c.requires.watching
      (slice_get-get_or c.args.trail.now.lits c.args.head c.index-lits-head.result c.requires.head
      ∙ ap Some (sym (subst (λ ls. c.index-lits-head.result ≡ get_or ls c.args.head c.index-lits-head.result)
      c.lits.ensures.lits c.index-lits-head.is)
      ∙ sym (opposite-opposite c.index-lits-head.result) ∙ ap opposite (sym c.opposite-untrue.ensures)))
      c.take-list.ensures.list c.take-list.ensures.length c.take-list.ensures.lists;
}

pub returns-clause-none : goal.returns-clause-none
returns-clause-none c =
    let end = c.loop-cursor-test.false in
    let long = c.len.ensures in
    visiting-ends c.args.clauses.now c.loop-cursor.pairs.items c.loop-cursor.lists c.put-2.new.self c.loop-cursor.trail
    c.args.head c.opposite-untrue.result c.loop-cursor.list.items c.loop-cursor.cursor c.loop-cursor.invariant.visiting
    (omega (arith, end, long)) c.put-2.ensures.length c.put-2.ensures.lists
