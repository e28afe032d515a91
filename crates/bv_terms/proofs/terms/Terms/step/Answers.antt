-- The arguments of the node have values in the room.
use Rattle.std.proofs.Common.{◌∙◌, ◌≤◌, length, option_map, refl, sym, ap, subst, All}
use Rattle.std.specs.Map.Iter.{deref_pair}
use Rattle.std.proofs.lemmas.Option.{same_Some}
use Rattle.bv_terms.specs.Table.{Entry, Table, IsTable}
use Rattle.bv_terms.specs.Eval.{IsValued}
use Rattle.bv_terms.proofs.TermTableLemmas.{kept-stands}
use Rattle.bv_terms.proofs.EvalLemmas.{padded-below, step-value}
use Rattle.bv_terms.proofs.terms.Terms.step.Goals as goal

pub apply-requires : goal.apply-requires
apply-requires c =
    let kept = c.self.inside.nodes.entries in
    padded-below c.self.inside.pointer kept c.self.invariant c.args.at.0 (length c.args.room.now)
    c.unwrap.result.0.now c.unwrap.result.1.now
    (sym c.get_index.ensures.entry ∙ ap (option_map deref_pair) c.unwrap.ensures)
    (subst (λ (table : Table). length table.nodes ≤ length c.args.room.now) (sym c.self.view_is) c.requires.room)

pub returns-clause-value : goal.returns-clause-value
returns-clause-value c = λ e h valued fit.
    let node = c.unwrap.result.0.now in
    let stands = kept-stands c.self.inside.pointer c.self.inside.nodes.entries c.args.self.now c.self.view_is
    c.args.at.0 node c.unwrap.result.1.now _
    (sym c.get_index.ensures.entry ∙ ap (option_map deref_pair) c.unwrap.ensures) refl in
    let same = same_Some _ _ (sym h ∙ stands) in
    step-value c.args.self.now
    (subst IsTable c.self.view_is c.self.invariant.table) c.args.inputs.now c.args.room.now c.args.at _ stands
    (subst (λ (e : Entry). All (IsValued c.args.self.now c.args.inputs.now c.args.room.now) e.args) same valued)
    c.apply.result c.apply.ensures fit
