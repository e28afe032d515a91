use Rattle.std.proofs.Common.{◌∙◌, map, ap}
use Rattle.std.specs.List.{list_all}
use Rattle.std.specs.Option.{is_some}
use Rattle.sexp_read.specs.Forest.{tree_at}
use Rattle.pattern_text.specs.Form.{source_in}
use Rattle.pattern_text.proofs.EachLemmas.{node_formed, after-attrs, second-test}
use Rattle.pattern_text.proofs.form.is_node_of.Goals as goal

pub returns : goal.returns
returns c =
    let tree = tree_at c.args.bytes.now c.args.forest.now.items in
    second-test c.is_any_word.result c.are_sources.result _ _ _ c.is_any_word.ensures c.if-not-is_any_word.false
    (c.are_sources.ensures
    ∙ ap (λ items. list_all (λ t. is_some (source_in t)) (map tree items)) c.after.ensures
    ∙ after-attrs tree c.args.rest.now c.attr_count-count.result c.attr_count-count.ensures.value)
    (node_formed (tree c.args.op) (map tree c.args.rest.now))
