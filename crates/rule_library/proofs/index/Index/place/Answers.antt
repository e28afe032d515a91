use Rattle.std.proofs.Common.{sym, subst}
use Rattle.rule_library.specs.Steps.{StandsIn}
use Rattle.rule_library.proofs.EntryLemmas.{stands-in}
use Rattle.rule_library.proofs.index.Index.place.Goals as goal

pub returns : goal.returns
returns c =
    let i = c.args.self.now in
    subst (StandsIn i.plan i.book.now c.args.goal c.args.multi.now) (sym c.index.ensures)
    (stands-in i.plan i.book.now i.places.items c.args.goal c.number-number.result c.index.result.now c.args.multi.now
    c.requires.index.book c.requires.index.places c.number-number.ensures.place.there)
