use Rattle.std.proofs.Common.{◌≡◌, ◌∙◌, ◌+◌, ℕ, List, [], ◌∷◌, ◌++◌, sym, ap, subst, map, option_map, false}
use Rattle.std.proofs.Common.{get_or, drop, drop-cons, add-one, refl, arith, length, ◌<◌}
use Rattle.std.specs.Prelude.{bytes_eq}
use Rattle.std.specs.List.{list_any}
use Rattle.std.specs.String.{string_bytes}
use Rattle.std.proofs.lemmas.Bool.{false≢true}
use denote.Ref.{Bor}
use Rattle.list_lemmas.proofs.Bools.{false_unless}
use Rattle.list_lemmas.proofs.Lists.{map-push}
use Rattle.list_lemmas.proofs.Lookups.{any_name, any-there}
use Rattle.sexp_read.specs.Forest.{tree_at}
use Rattle.term_text.specs.Reading.{bound_word, differ}
use Rattle.term_text.proofs.BindingLemmas.{Left, words_of, left-start, left-twice, left-more, bound-is}
use Rattle.term_text.proofs.bindings.names_differ.Goals as goal

pub loop-item-init : goal.loop-item-init
loop-item-init c =
    let trees = map (tree_at c.args.bytes.now c.args.forest.now.items) c.args.bindings.now in
    subst (λ (s : List (List ℕ × Unit {0})). Left (map (λ e. e.0) s) trees (differ (words_of trees)))
    (sym c.new-seen.ensures) (left-start trees c.requires.shaped c.requires.named)

pub returns-then-contains : goal.returns-then-contains
returns-then-contains c =
    let tree = tree_at c.args.bytes.now c.args.forest.now.items in
    let items = c.args.bindings.now in
    let i = c.loop-item.item-index in
    let seen : List (List ℕ) = map (λ e. e.0) c.loop-item.seen in
    let answer = differ (words_of (map tree items)) in
    let within : i < length items = omega arith in
    let next : drop i items ≡ get_or items i 0 ∷ drop (i + 1) items = rw (add-one, drop-cons items i 0) refl in
    let left = subst (λ (xs : List ℕ). Left seen (map tree xs) answer) next c.loop-item.invariant in
    let word = bound-is (bound_word (tree (get_or items i 0))) c.unwrap-name.result.now (sym c.bound_name.ensures
    ∙ ap (option_map (λ (name : Bor (List ℕ)). name.now)) c.unwrap-name.ensures) in
    left-twice seen (tree (get_or items i 0)) (map tree (drop (i + 1) items)) answer c.unwrap-name.result.now left word
    (any_name c.unwrap-name.result.now seen (c.contains.ensures.0 c.if-contains.true))

pub loop-item-preserved : goal.loop-item-preserved
loop-item-preserved c =
    let tree = tree_at c.args.bytes.now c.args.forest.now.items in
    let items = c.args.bindings.now in
    let i = c.loop-item.item-index in
    let seen : List (List ℕ) = map (λ e. e.0) c.loop-item.seen in
    let answer = differ (words_of (map tree items)) in
    let within : i < length items = omega arith in
    let next : drop i items ≡ get_or items i 0 ∷ drop (i + 1) items = rw (add-one, drop-cons items i 0) refl in
    let left = subst (λ (xs : List ℕ). Left seen (map tree xs) answer) next c.loop-item.invariant in
    let name = c.unwrap-name.result.now in
    let word = bound-is (bound_word (tree (get_or items i 0))) name (sym c.bound_name.ensures
    ∙ ap (option_map (λ (name : Bor (List ℕ)). name.now)) c.unwrap-name.ensures) in
    let new : list_any (bytes_eq name) seen ≡ false = false_unless (list_any (bytes_eq name) seen)
    (λ e. false≢true (sym c.if-contains.false ∙ c.contains.ensures.1 (any-there name seen e))) in
    let more = left-more seen (tree (get_or items i 0)) (map tree (drop (i + 1) items)) answer name left word new in
    let grown : map (λ e. e.0) c.insert.new.self ≡ seen ++ name ∷ [] =
    ap (map (λ (e : List ℕ × Unit {0}). e.0)) c.in_ok-insert.ensures.ok
    ∙ map-push (λ (e : List ℕ × Unit {0}). e.0) c.loop-item.seen (string_bytes c.in_ok-from_str.field-0, tt)
    ∙ ap (λ (x : List ℕ). seen ++ x ∷ []) c.in_ok-from_str.ensures.ok in
    subst (λ (s : List (List ℕ)). Left s (map tree (drop (i + 1) items)) answer) (sym grown) more
