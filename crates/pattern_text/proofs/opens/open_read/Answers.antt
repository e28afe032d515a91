use Rattle.std.proofs.Common.{map}
use Rattle.sexp_read.specs.Forest.{tree_at}
use Rattle.isel_spec.specs.Spec.{file}
use Rattle.pattern_text.proofs.OpenLemmas.{open-told, open-none}
use Rattle.pattern_text.proofs.opens.open_read.Goals as goal

pub returns-in-Some : goal.returns-in-Some
returns-in-Some c =
    let tree = tree_at c.args.bytes.now c.args.forest.now.items in
    open-told (file c.args.spec.now) (tree c.args.item) c.span_of-span.result (map tree c.in-Some.words.now)
    c.words_read.result c.span_of-span.ensures c.in-Some.ensures.value c.words_read.ensures

pub returns-in-None : goal.returns-in-None
returns-in-None c =
    let tree = tree_at c.args.bytes.now c.args.forest.now.items in
    open-none (file c.args.spec.now) (tree c.args.item) c.span_of-span.result c.fault_at.result
    c.span_of-span.ensures c.in-None.ensures.value c.fault_at.ensures
