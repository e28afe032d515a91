use Rattle.std.proofs.Common.{◌∙◌, sym, subst, take, ◌+◌, ℕ, List, Contains, get_or}
use Rattle.std.proofs.lemmas.List.{take_all}
use Rattle.list_lemmas.proofs.Lookups.{any-contains}
use Rattle.loc_encode.proofs.KindLemmas.{HaveSame, HaveSame-none, HaveSame-new, HaveSame-old}
use Rattle.loc_encode.proofs.lines.kinds_of.Goals as goal
use Rattle.loc_encode.proofs.lines.kinds_of.Goals.{then-not-contains+in_ok-push, else-not-contains}

pub loop-op-init : goal.loop-op-init
loop-op-init c = HaveSame-none c.in_ok-kinds.kinds.items c.in_ok-kinds.ensures.items

pub loop-op-preserved : goal.loop-op-preserved
loop-op-preserved c =
    let ops : List ℕ = c.args.ops.now in
    let i = c.loop-op.op-index in
    elim c.if-not-contains.branch [
      | then-not-contains+in_ok-push w ↦
          subst (λ v. HaveSame v.items (take (i + 1) ops)) (sym w.kinds-is)
          (HaveSame-new c.loop-op.kinds.items w.push.new.self.items ops i 0 c.loop-op-test.true
          w.in_ok-push.ensures.items c.loop-op.invariant)
      | else-not-contains w ↦
          subst (λ v. HaveSame v.items (take (i + 1) ops)) (sym w.kinds-is)
          (HaveSame-old c.loop-op.kinds.items ops i 0 c.loop-op-test.true
          (subst (λ (xs : List ℕ). Contains xs (get_or ops i 0)) c.deref.ensures.value
          (any-contains (get_or ops i 0) c.deref.result.now (sym c.contains.ensures.value ∙ w.if-not-contains.false)))
          c.loop-op.invariant)
    ]

pub returns : goal.returns
returns c =
    let same : HaveSame c.loop-op.kinds.items c.args.ops.now =
    subst (HaveSame c.loop-op.kinds.items) (take_all c.loop-op.op-index c.args.ops.now c.loop-op-test.false)
    c.loop-op.invariant in
    λ op. (same.to op, same.from op)
