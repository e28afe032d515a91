use Rattle.std.proofs.lemmas.Option.{IfSome_then}
use Rattle.pattern_text.proofs.form.members.Goals as goal

pub returns-clause-within : goal.returns-clause-within
returns-clause-within c =
    IfSome_then c.children.result (c.children.ensures.later c.args.bytes.now c.requires.reading)
    (λ items all. λ k d l. (all k d l).1)
