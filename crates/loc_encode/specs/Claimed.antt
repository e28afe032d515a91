-- The claim that a layout is of.
use Rattle.pattern_core.specs.Claim.{Claim}
use Rattle.loc_encode.specs.declared.layout.Layout.{Layout}
use Rattle.loc_encode.specs.Layout.{claim_of}

unfoldable pub claim_in : Layout → Claim
claim_in l = claim_of l.spec.now l.goal l.ops.now
