use Rattle.std.proofs.Common.{◌≡◌, ◌∙◌, ◌+◌, ℕ, List, [], ◌∷◌, ◌++◌, drop, get_or}
use Rattle.std.proofs.Common.{sym, ap, subst, true, false, arith}
use Rattle.std.proofs.lemmas.List.{drop_more, drop_all}
use Rattle.std.specs.List.{list_any}
use Rattle.std.specs.Str.{bytes_eq}
use Rattle.bv_terms.specs.declared.value.Sort.TheVariants as sort
use Rattle.sexp_read.specs.Forest.{tree_at}
use Rattle.sexp_read.specs.Words.{is_name}
use Rattle.isel_spec.specs.declared.definitions.Kind.TheVariants as kind
use Rattle.term_text.proofs.BuildLemmas.{Extends-itself, Extends-further}
use Rattle.spec_reader.specs.declared.form.Param.{Param}
use Rattle.spec_reader.proofs.NameLemmas.{name-is-name}
use Rattle.spec_reader.proofs.ScopeLemmas.{HasScope, names, scope-start, scope-new, scope-more, scope-done}
use Rattle.spec_reader.proofs.scope.scope_from.Goals as goal

abbrev no-param : Param
no-param = record { name = 0; kind = kind.Reg; sort = sort.Bool }

pub loop-place-init : goal.loop-place-init
loop-place-init c =
    let tree = tree_at c.args.bytes.now c.args.forest.now.items in
    let params = c.args.params.now in
    record {
      extends = Extends-itself c.args.terms.now;
      scope = subst (HasScope tree params params 0 c.args.terms.now) (sym c.new-names.ensures)
          (scope-start tree params c.args.terms.now c.requires.few);
    }

pub add_name-requires-clause-named : goal.add_name-requires-clause-named
add_name-requires-clause-named c =
    let tree = tree_at c.args.bytes.now c.args.forest.now.items in
    let q = get_or c.args.params.now c.loop-place.place no-param in
    subst (λ (word : List ℕ). is_name word ≡ true) (sym c.name_of.ensures)
    (name-is-name (tree q.name) (c.requires.named c.loop-place.place no-param (omega arith)))

pub add_name-requires-clause-new : goal.add_name-requires-clause-new
add_name-requires-clause-new c =
    let tree = tree_at c.args.bytes.now c.args.forest.now.items in
    let params = c.args.params.now in
    let place = c.loop-place.place in
    let entries = c.loop-place.names in
    subst (λ (word : List ℕ). list_any (bytes_eq word) (names entries) ≡ false) (sym c.name_of.ensures)
    (scope-new tree params (drop place params) (drop (place + 1) params) (get_or params place no-param) place
    c.loop-place.terms entries c.loop-place.invariant.scope (drop_more params place no-param (omega arith)))

pub loop-place-preserved : goal.loop-place-preserved
loop-place-preserved c =
    let tree = tree_at c.args.bytes.now c.args.forest.now.items in
    let params = c.args.params.now in
    let place = c.loop-place.place in
    let entries = c.loop-place.names in
    let at = c.in_ok-at.at in
    let made = c.in_ok-at.ensures in
    record {
      extends = Extends-further c.args.terms.now c.loop-place.terms c.input.new.terms c.loop-place.invariant.extends
          made.extends;
      scope = subst (HasScope tree params (drop (place + 1) params) (place + 1) c.input.new.terms)
          (sym (c.in_ok-add_name.ensures ∙ ap (λ word. entries ++ (word, at) ∷ []) c.name_of.ensures))
          (scope-more tree params (drop place params) (drop (place + 1) params) (get_or params place no-param) place
          c.loop-place.terms c.input.new.terms entries at c.loop-place.invariant.scope
          (drop_more params place no-param (omega arith)) made.extends made.stands);
    }

pub returns-clause-scope : goal.returns-clause-scope
returns-clause-scope c =
    let tree = tree_at c.args.bytes.now c.args.forest.now.items in
    let params = c.args.params.now in
    let has = c.loop-place.invariant.scope in (
      has.within,
      scope-done tree params (drop c.loop-place.place params) c.loop-place.place c.loop-place.terms c.loop-place.names
          has (drop_all c.loop-place.place params (omega arith)),
    )
