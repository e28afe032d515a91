-- What a layout says of its claim.
use Rattle.std.proofs.Common.{◌≡◌, ◌≤◌, refl, length}
use Rattle.loc_encode.specs.declared.layout.Layout.{Layout}
use Rattle.loc_encode.specs.Layout.{claim_of}
use Rattle.loc_encode.specs.Claimed.{claim_in}

pub claim_in-ops : (l : Layout) → (claim_in l).ops ≡ l.ops.now
unfolding claim_in claim_of
claim_in-ops l = refl

pub claim_in-is : (l : Layout) → claim_in l ≡ claim_of l.spec.now l.goal l.ops.now
unfolding claim_in
claim_in-is l = refl

pub claim_in-few : (l : Layout) → length (claim_in l).ops ≤ 6
unfolding claim_in claim_of
claim_in-few l = l.few
