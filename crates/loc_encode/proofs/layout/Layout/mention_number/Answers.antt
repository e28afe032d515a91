use Rattle.std.proofs.Common.{sym, ◌∙◌}
use Rattle.loc_encode.specs.Claimed.{claim_in}
use Rattle.loc_encode.proofs.SlotSortLemmas.{slot_sort-slot}
use Rattle.loc_encode.proofs.layout.Layout.mention_number.Goals as goal

pub returns-clause-keeps : goal.returns-clause-keeps
returns-clause-keeps c =
    let is = slot_sort-slot (claim_in c.args.self.now) c.at-slot.result c.in-Some.sort
    (sym c.slot_sort.ensures ∙ c.in-Some.is) in
    c.mention.ensures.keeps (claim_in c.args.self.now) is (c.requires.sized _ _ is)
