use Rattle.std.proofs.Common.{sym, ap, ◌∙◌, Err, map, arith}
use Rattle.sexp_read.specs.Forest.{tree_at}
use Rattle.std.proofs.lemmas.List.{length-map}
use Rattle.term_text.proofs.HeadLemmas.{not-two}
use Rattle.term_text.proofs.head.underscore_head.Goals as goal

pub returns-in_default : goal.returns-in_default
returns-in_default c =
    let tree = tree_at c.args.bytes.now c.args.forest.now.items in
    let below = c.in_default.len_below in
    let size = length-map c.args.rest.now tree in
    ap Err c.fault_at.ensures ∙ sym (not-two c.args.span (map tree c.args.rest.now) (λ e. omega (arith, e)))
