use Rattle.std.proofs.Common.{◌≡◌, ◌∙◌, ◌<◌, ℕ, List, [], ◌++◌, All, length, map, sym, ap, subst}
use Rattle.sexp_read.specs.Forest.{tree_at}
use Rattle.sexp_read.specs.Tree.{Tree}
use Rattle.spec_reader.specs.Walk.{names_fault}
use Rattle.spec_reader.proofs.NameLemmas.{bound, bound-trees, bound-within}
use Rattle.spec_reader.proofs.names.params_fault.Goals as goal

pub names_fault-requires-clause-names_in : goal.names_fault-requires-clause-names_in
names_fault-requires-clause-names_in c =
    let size = length c.args.forest.now.items in
    let args = c.args.parts.now.args.items in
    let attrs = c.args.parts.now.attrs.items in
    let items : c.as_slice-3.result.now ≡ bound args ++ bound attrs =
    c.as_slice-3.ensures.value ∙ c.in_ok-names.ensures
    ∙ (λ i. bound (c.as_slice.ensures.value i) ++ bound (c.as_slice-2.ensures.value i)) in
    subst (λ (xs : List ℕ). All (λ item. item < size) xs) (sym items)
    (bound-within size args attrs c.requires.parts_in.args c.requires.parts_in.attrs)

pub returns : goal.returns
returns c =
    let tree = tree_at c.args.bytes.now c.args.forest.now.items in
    let args = c.args.parts.now.args.items in
    let attrs = c.args.parts.now.attrs.items in
    let items : c.as_slice-3.result.now ≡ bound args ++ bound attrs =
    c.as_slice-3.ensures.value ∙ c.in_ok-names.ensures
    ∙ (λ i. bound (c.as_slice.ensures.value i) ++ bound (c.as_slice-2.ensures.value i)) in
    c.names_fault.ensures
    ∙ ap (λ (ts : List Tree). names_fault [] ts) (ap (map tree) items ∙ bound-trees tree args attrs)
