use Rattle.std.proofs.Common.{Some, length, map, slice_index_or, sym, ap, subst, ◌∙◌}
use Rattle.std.specs.Prelude.{option_map}
use Rattle.std.specs.List.{All}
use Rattle.std.proofs.lemmas.List.Elements.{All-from_recursion}
use Rattle.sexp_read.specs.declared.forest.Item.{Item}
use Rattle.sexp_read.specs.Forest.{tree_at}
use Rattle.sexp_read.proofs.ForestLemmas.{IsBetween, children-later, item-at}
use Rattle.sexp_read.proofs.TreeAtLemmas.{children-none, children-some, children-members}
use Rattle.sexp_read.proofs.forest.Forest.children.Goals as goal

pub returns-in-Atom-clause-trees : goal.returns-in-Atom-clause-trees
returns-in-Atom-clause-trees c =
    let read = c.index-as_slice-item in
    let same = ap (λ is. slice_index_or is c.args.item read.result) c.as_slice.ensures in
    λ bytes reading.
    ap (option_map (map (tree_at bytes c.args.self.now.items)))
    (sym (children-none c.args.self.now.items c.args.item read.result
    (item-at _ c.args.item read.result (read.is ∙ same) c.requires)
    (ap (λ (i : Item). i.body) read.is ∙ c.in-Atom.is)))
    ∙ children-members bytes c.args.self.now reading c.args.item c.requires

pub returns-in-List-clause-members : goal.returns-in-List-clause-members
returns-in-List-clause-members c =
    let read = c.index-as_slice-item in
    let same = ap (λ is. slice_index_or is c.args.item read.result) c.as_slice.ensures in
    ap Some c.as_slice-in-List.ensures
    ∙ sym (children-some c.args.self.now.items c.args.item read.result c.in-List.children
    (item-at _ c.args.item read.result (read.is ∙ same) c.requires)
    (ap (λ (i : Item). i.body) read.is ∙ c.in-List.is))

pub returns-in-List-clause-trees : goal.returns-in-List-clause-trees
returns-in-List-clause-trees c =
    λ bytes reading.
    ap (option_map (map (tree_at bytes c.args.self.now.items))) (returns-in-List-clause-members c)
    ∙ children-members bytes c.args.self.now reading c.args.item c.requires

pub returns-in-List-clause-later : goal.returns-in-List-clause-later
returns-in-List-clause-later c =
    let read = c.index-as_slice-item in
    let same = ap (λ is. slice_index_or is c.args.item read.result) c.as_slice.ensures in
    λ bytes reading.
    subst (All (IsBetween c.args.item (length c.args.self.now.items))) (sym c.as_slice-in-List.ensures)
    (All-from_recursion _ _
    (children-later bytes c.args.self.now reading c.args.item read.result c.in-List.children
    (item-at _ c.args.item read.result (read.is ∙ same) c.requires) (ap (λ (i : Item). i.body) read.is ∙ c.in-List.is)))
