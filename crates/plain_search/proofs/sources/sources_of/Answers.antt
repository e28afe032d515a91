use Rattle.std.proofs.Common.{◌≤◌, ◌++◌, length, slice_get, Some, sym, ap, ◌∙◌, subst}
use Rattle.isel_spec.specs.File.{sorts_in}
use Rattle.isel_spec.proofs.SpecLemmas.{IsSoundGoal_at}
use Rattle.pattern_core.specs.declared.pattern.Src.TheVariants.{Input}
use Rattle.plain_search.specs.Patterns.{is_sort}
use Rattle.plain_search.proofs.RangeLemmas.{kept}
use Rattle.plain_search.proofs.SourceLemmas.{sources-are}
use Rattle.plain_search.proofs.sources.sources_of.Goals as goal

pub add_inputs-requires : goal.add_inputs-requires
add_inputs-requires c =
    let sound = IsSoundGoal_at c.args.spec.now c.args.goal _ c.goal.ensures.1 in
    subst (λ xs. length xs ≤ 4) (sym c.as_slice.ensures) sound.few

pub returns : goal.returns
returns c = λ g h.
    let args = c.as_slice.result.now in
    let inputs =
    kept (λ k. Input k) (λ k. is_sort (Some c.args.wanted) (slice_get (sorts_in args) k)) (length args) in
    c.from_vec.ensures
    ∙ sources-are c.args.spec.now c.args.goal g c.args.nodes.now c.args.wanted c.goal.ensures.0 c.goal.result.now args
    c.add_inputs.new.found.items c.add_nodes.new.found.items c.goal.ensures.1 h c.as_slice.ensures
    (c.in_ok-add_inputs.ensures ∙ ap (λ xs. xs ++ inputs) c.new-found.ensures.items) (c.in_ok-add_nodes.ensures g)
