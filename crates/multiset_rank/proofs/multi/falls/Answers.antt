use Rattle.std.proofs.Common.{arith, ◌∙◌, ◌≡◌, ◌-◌, true}
use Rattle.multiset_rank.specs.Multisets.{never_falls}
use Rattle.multiset_rank.proofs.PaddedLemmas.{ends_rising}
use Rattle.multiset_rank.proofs.multi.falls.Goals as goal

pub returns : goal.returns
returns c =
    let rises : never_falls c.args.ops.now ≡ true =
    c.loop-place.invariant ∙ ends_rising c.args.ops.now (c.loop-place.place - 1) (omega arith) in
    (λ h. absurd (cc), λ h. absurd (cc))
