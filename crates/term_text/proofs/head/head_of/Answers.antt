use Rattle.std.proofs.Common.{◌≡◌, ◌∙◌, ℕ, List, sym, ap, subst, Some, map, option_map, false}
use Rattle.std.specs.Prelude.{bytes_eq, codes}
use denote.Ref.{Bor}
use Rattle.sexp_read.specs.Tree.{word_of}
use Rattle.sexp_read.specs.Forest.{tree_at}
use Rattle.term_text.proofs.HeadLemmas.{list-at-head, word-at-head}
use Rattle.term_text.proofs.head.head_of.Goals as goal

pub list_head-requires-clause-members_in : goal.list_head-requires-clause-members_in
list_head-requires-clause-members_in c =
    let later = c.in-Some.ensures.later c.args.bytes.now c.requires.reading in
    λ k d l. (later k d l).1

pub returns-in-Some : goal.returns-in-Some
returns-in-Some c =
    let span = c.span-head_span.ensures c.args.bytes.now c.requires.reading in
    let tree = tree_at c.args.bytes.now c.args.forest.now.items in
    c.list_head.ensures
    ∙ list-at-head c.args.span c.span-head_span.result (tree c.args.head) (map tree c.in-Some.members.now)
    (map tree c.args.rest.now) span.0 span.1 (sym (c.in-Some.ensures.trees c.args.bytes.now c.requires.reading))

pub returns : goal.returns
returns c =
    let span = c.span-head_span.ensures c.args.bytes.now c.requires.reading in
    let tree = tree_at c.args.bytes.now c.args.forest.now.items in
    let word : word_of (tree c.args.head) ≡ Some c.unwrap-word.result.now = sym c.atom.ensures.word
    ∙ ap (option_map (λ (text : Bor (List ℕ)). text.now)) c.unwrap-word.ensures in
    let test : bytes_eq c.unwrap-word.result.now c.as_slice.result.now ≡ false = sym c.eq.ensures ∙ c.if-eq.false in
    let other : bytes_eq c.unwrap-word.result.now (codes "_") ≡ false =
    subst (λ (x : List ℕ). bytes_eq c.unwrap-word.result.now x ≡ false) c.as_slice.ensures test in
    c.word_head.ensures
    ∙ word-at-head c.args.span c.span-head_span.result (tree c.args.head) (map tree c.args.rest.now)
    c.unwrap-word.result.now span.0 span.1 word other
