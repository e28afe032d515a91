use Rattle.std.proofs.Common.{◌≡◌, ◌∙◌, List, ℕ, [], ◌∷◌, ◌++◌, sym, ap, subst, option_map}
use Rattle.std.specs.Prelude.{Contains}
use Rattle.std.specs.String.{string_bytes}
use Rattle.sexp_read.specs.Words.{is_name}
use Rattle.spec_reader.proofs.ScopeLemmas.{names, not-there, name-text}
use Rattle.spec_reader.proofs.scope.add_name.Goals as goal

pub insert-requires : goal.insert-requires
insert-requires c =
    let text : string_bytes c.in_ok-from_str.field-0 ≡ c.args.word.now =
    c.in_ok-from_str.ensures.ok
    ∙ name-text (is_name c.args.word.now) c.unwrap-name.result.now c.args.word.now
    ((λ i. option_map {U = List ℕ} (λ name. name.now) (sym c.unwrap-name.ensures i)) ∙ c.name.ensures) in
    λ h. not-there c.args.word.now (names c.args.names.now) c.requires.new
    (subst (Contains (names c.args.names.now)) text h)

pub returns : goal.returns
returns c =
    let text : string_bytes c.in_ok-from_str.field-0 ≡ c.args.word.now =
    c.in_ok-from_str.ensures.ok
    ∙ name-text (is_name c.args.word.now) c.unwrap-name.result.now c.args.word.now
    ((λ i. option_map {U = List ℕ} (λ name. name.now) (sym c.unwrap-name.ensures i)) ∙ c.name.ensures) in
    c.in_ok-insert.ensures.ok ∙ ap (λ word. c.args.names.now ++ (word, c.args.at) ∷ []) text
