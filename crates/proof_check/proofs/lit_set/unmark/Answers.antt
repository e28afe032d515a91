use Rattle.std.proofs.Common.{◌≡◌, ◌+◌, suc, ◌∷◌, length, get_or, drop, sym, ap, ◌∙◌, subst, arith}
use Rattle.std.proofs.Math.Seq.{drop-cons}
use Rattle.proof_check.specs.declared.marks.Marks.{Marks}
use Rattle.proof_check.proofs.SetLemmas.{marked-within, no_lit, Unmarks, Unmarks-pass, Unmarks-move}
use Rattle.proof_check.proofs.lit_set.unmark.Goals as goal
use Rattle.proof_check.proofs.lit_set.unmark.Goals.{then-is_marked+in_ok-push, else-is_marked}

pub set-requires-clause-positive : goal.set-requires-clause-positive
set-requires-clause-positive c =
    let kept = c.loop-lit.invariant.kept in
    marked-within (length c.loop-lit.marks.positive.items) c.loop-lit.marks _
    (λ i. length c.loop-lit.marks.positive.items) (kept.negative ∙ sym c.requires.same ∙ sym kept.positive)
    (sym c.is_marked.ensures ∙ c.if-is_marked.true)

pub set-requires-clause-negative : goal.set-requires-clause-negative
set-requires-clause-negative c =
    let kept = c.loop-lit.invariant.kept in
    marked-within (length c.loop-lit.marks.negative.items) c.loop-lit.marks _
    (kept.positive ∙ c.requires.same ∙ sym kept.negative) (λ i. length c.loop-lit.marks.negative.items)
    (sym c.is_marked.ensures ∙ c.if-is_marked.true)

pub loop-lit-preserved : goal.loop-lit-preserved
loop-lit-preserved c =
    let lit = get_or c.args.added.now c.loop-lit.lit-index no_lit in
    let rest = drop (c.loop-lit.lit-index + 1) c.args.added.now in
    let next : suc c.loop-lit.lit-index ≡ c.loop-lit.lit-index + 1 = omega arith in
    let cons : drop c.loop-lit.lit-index c.args.added.now ≡ lit ∷ rest =
    drop-cons c.args.added.now c.loop-lit.lit-index no_lit c.loop-lit-test.true
    ∙ ap (λ n. lit ∷ drop n c.args.added.now) next in
    let before = subst (λ ls. Unmarks c.args.marks.now c.loop-lit.marks ls c.loop-lit.lits) cons c.loop-lit.invariant in
    elim c.if-is_marked.branch [
      | then-is_marked+in_ok-push w ↦
          subst (λ (m : Marks). Unmarks c.args.marks.now m rest c.if-is_marked.lits) (sym w.marks-is)
          (subst (Unmarks c.args.marks.now w.set.new.self rest) (sym (w.lits-is ∙ w.in_ok-push.ensures.ok))
          (Unmarks-move c.args.marks.now c.loop-lit.marks w.set.new.self lit rest c.loop-lit.lits
          (sym c.is_marked.ensures ∙ w.if-is_marked.true)
          w.set.ensures.positive w.set.ensures.negative w.set.ensures.marks before))
      | else-is_marked w ↦
          subst (λ (m : Marks). Unmarks c.args.marks.now m rest c.if-is_marked.lits) (sym w.marks-is)
          (subst (Unmarks c.args.marks.now c.loop-lit.marks rest) (sym w.lits-is)
          (Unmarks-pass c.args.marks.now c.loop-lit.marks lit rest c.loop-lit.lits
          (sym c.is_marked.ensures ∙ w.if-is_marked.false) before))
    ]
