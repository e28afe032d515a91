use Rattle.term_text.proofs.bindings.bound_word.Goals as goal

pub atom-requires-clause-item_in : goal.atom-requires-clause-item_in
atom-requires-clause-item_in c = (c.in_ok-first.ensures.later c.args.bytes.now c.requires.reading).1
