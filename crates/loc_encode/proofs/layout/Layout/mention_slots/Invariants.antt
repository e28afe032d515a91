use Rattle.loc_encode.specs.Mentions.{MentionsBelow}
use Rattle.loc_encode.specs.Claimed.{claim_in}
use Rattle.loc_encode.proofs.layout.Layout.mention_slots.Given as goal

abbrev pub invariant-loop-number : goal.invariant-loop-number
invariant-loop-number l = MentionsBelow (claim_in l.self) l.fn.terms l.fn.formula l.terms l.all l.number
