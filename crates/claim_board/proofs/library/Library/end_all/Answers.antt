use Rattle.std.proofs.Common.{◌≡◌, suc, length, List, ap, arith, ◌∙◌, subst}
use Rattle.std.specs.Prelude.{All}
use Rattle.claim_board.specs.declared.pass.Over.{Over}
use Rattle.claim_board.proofs.library.Library.end_all.Goals as goal

pub loop-over-preserved : goal.loop-over-preserved
loop-over-preserved g c =
    let step = c.in-Some.ensures.steps.0 in
    let old = c.loop-over.invariant in
    let ended = ap (λ s. s.ended) c.end.ensures in
    let shorter = ap length step in
    let sum = old.1 in
    let all = subst (λ (overs : List Over). All (λ over. over.table ≡ g.L.Name.board.table) overs) step old.2 in (
      ap (λ s. s.book) c.end.ensures ∙ old.0,
      omega (arith, ended, shorter, sum),
      λ k d there. all (suc k) d (omega (arith, there)),
    )
