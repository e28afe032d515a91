use Rattle.std.proofs.Common.{ℕ, ◌<◌, length, subst, All, IfSome}
use Rattle.term_text.proofs.walk.Walk.members.Goals as goal

pub returns-clause-later : goal.returns-clause-later
returns-clause-later c =
    subst (λ o. IfSome o (λ children. All (λ (child : ℕ). (c.args.item < child)
    × (child < length c.args.self.now.forest.now.items)) children.now)) c.unwrap.ensures
    (c.children.ensures.later c.args.self.now.bytes.now c.requires.reading)
