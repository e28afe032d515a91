use Rattle.std.proofs.Common.{◌∙◌, ap, sym, map, take, drop}
use Rattle.std.proofs.lemmas.List.{take-map}
use Rattle.list_lemmas.proofs.Lists.{drop-map}
use Rattle.sexp_read.specs.Forest.{tree_at}
use Rattle.pattern_text.proofs.small.parted.Goals as goal

pub returns-clause-attrs : goal.returns-clause-attrs
returns-clause-attrs c =
    let tree = tree_at c.args.bytes.now c.args.forest.now.items in
    sym (take-map tree c.attr_count-count.result c.args.items.now)
    ∙ ap (λ n. take n (map tree c.args.items.now)) c.attr_count-count.ensures.value

pub returns-clause-args : goal.returns-clause-args
returns-clause-args c =
    let tree = tree_at c.args.bytes.now c.args.forest.now.items in
    ap (map tree) c.after.ensures ∙ sym (drop-map tree c.args.items.now c.attr_count-count.result)
    ∙ ap (λ n. drop n (map tree c.args.items.now)) c.attr_count-count.ensures.value
