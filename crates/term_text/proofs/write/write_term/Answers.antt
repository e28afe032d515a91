-- The text is read back since it is the text of the node's term.
use Rattle.std.proofs.Common.{◌≡◌, map, Some, rules, arith}
use Rattle.std.proofs.lemmas.Grind.{common_steps}
use Rattle.std.proofs.lemmas.List.Elements.{All-pop}
use Rattle.std.specs.String.{string_bytes}
use Rattle.bv_terms.specs.Table.{term_at}
use Rattle.term_text.specs.Text.{term_text}
use Rattle.term_text.specs.Writing.{IsPiece}
use Rattle.term_text.proofs.TextLemmas.{text-read_back}
use Rattle.term_text.proofs.write.write_term.Goals as goal

pub returns-in_default-clause-read_back : goal.returns-in_default-clause-read_back
returns-in_default-clause-read_back c =
    let names = map string_bytes c.args.names.now in
    let text : string_bytes c.loop-stack.out ≡ term_text names (term_at c.args.terms.now c.args.at) =
    first_of (search rules, grind (arith, common_steps)) in
    text-read_back c.args.terms.now c.len.ensures.table c.args.at c.requires.there names c.requires.named
    (string_bytes c.loop-stack.out) text

pub write_piece-requires-clause-pieces : goal.write_piece-requires-clause-pieces
write_piece-requires-clause-pieces c =
    (All-pop (IsPiece c.args.terms.now) c.loop-stack.stack.items c.pop.new.self.items (Some c.in-Some.piece)
    c.in-Some.ensures.items c.loop-stack.invariant.pieces).0
