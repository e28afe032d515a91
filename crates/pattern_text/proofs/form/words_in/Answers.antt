use Rattle.std.proofs.Common.{◌∙◌, map, ap, sym}
use Rattle.std.specs.Prelude.{option_and_then}
use Rattle.sexp_read.specs.Forest.{tree_at}
use Rattle.pattern_text.specs.Form.{each, word_in}
use Rattle.pattern_text.proofs.PartsLemmas.{words-same, words-none}
use Rattle.pattern_text.proofs.form.words_in.Goals as goal

pub returns-then-are_words-clause-value : goal.returns-then-are_words-clause-value
returns-then-are_words-clause-value c =
    let tree = tree_at c.args.bytes.now c.args.forest.now.items in
    sym (words-same (map tree c.in_ok-items.items.now) (sym c.are_words.ensures ∙ c.if-are_words.true))
    ∙ ap (option_and_then (each word_in)) c.in_ok-items.ensures.trees

pub returns-else-are_words-clause-value : goal.returns-else-are_words-clause-value
returns-else-are_words-clause-value c =
    let tree = tree_at c.args.bytes.now c.args.forest.now.items in
    sym (words-none (map tree c.in_ok-items.items.now) (sym c.are_words.ensures ∙ c.if-are_words.false))
    ∙ ap (option_and_then (each word_in)) c.in_ok-items.ensures.trees
