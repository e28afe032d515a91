use Rattle.term_text.proofs.bindings.binding.Goals as goal

pub atom-requires-clause-item_in : goal.atom-requires-clause-item_in
atom-requires-clause-item_in c = (c.in_ok-first.ensures.later c.args.bytes.now c.requires.reading).1

pub returns-clause-later : goal.returns-clause-later
returns-clause-later c =
    let later = c.in_ok-first.ensures.later c.args.bytes.now c.requires.reading in
    (later.2, later.3)
