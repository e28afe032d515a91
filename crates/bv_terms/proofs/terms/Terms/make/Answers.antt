-- A node that is found stands there; one that is not is added.
use Rattle.std.proofs.Common.{◌≡◌, ◌<◌, Some, IfOk, length, slice_get, All, Contains, inl, refl, sym, ap, ◌∙◌, subst}
use Rattle.std.proofs.lemmas.Result.{IfOk-weaker}
use Rattle.bv_terms.specs.declared.op.TermId.{TermId}
use Rattle.bv_terms.specs.Term.{Apply}
use Rattle.bv_terms.specs.WellSorted.{sort_of}
use Rattle.bv_terms.specs.Table.{Entry, Table, operands, terms_of, term_at, IsTable, Makes}
use Rattle.bv_terms.specs.Node.{entry_of}
use Rattle.bv_terms.proofs.TableLemmas.{term_at-node}
use Rattle.bv_terms.proofs.TermTableLemmas.{found-node, missing-node}
use Rattle.bv_terms.proofs.MakeLemmas.{arity-of_args, seen-as, padded-as, made-added, kept-added, term-added}
use Rattle.bv_terms.proofs.terms.Terms.make.Goals as goal
use Rattle.list_lemmas.proofs.Lookups.{Contains-from_slice_get}

pub new-node-requires : goal.new-node-requires
new-node-requires c =
    arity-of_args c.args.self.now c.args.op c.args.args.now c.in_ok-sort.sort c.in_ok-sort.ensures.sort

pub add-requires-clause-padded : goal.add-requires-clause-padded
add-requires-clause-padded c =
    padded-as c.args.self.now
    (record { op = c.args.op; args = c.args.args.now }) c.in_ok-sort.sort c.new-node.result
    c.in_ok-sort.ensures.sort c.new-node.ensures

pub add-requires-clause-earlier : goal.add-requires-clause-earlier
add-requires-clause-earlier c =
    let seen = seen-as c.args.self.now
    (record { op = c.args.op; args = c.args.args.now }) c.in_ok-sort.sort c.new-node.result
    c.in_ok-sort.ensures.sort c.new-node.ensures in
    subst (λ (e : Entry). All (λ (a : TermId). a.0 < length c.args.self.now.nodes) e.args) (sym seen) c.requires

pub add-requires-clause-sorted : goal.add-requires-clause-sorted
add-requires-clause-sorted c =
    let seen = seen-as c.args.self.now
    (record { op = c.args.op; args = c.args.args.now }) c.in_ok-sort.sort c.new-node.result
    c.in_ok-sort.ensures.sort c.new-node.ensures in
    subst (λ (e : Entry). sort_of c.args.self.now.pointer (Apply e.op (operands (terms_of c.args.self.now) e.args))
    ≡ Some c.in_ok-sort.sort)
    (sym seen) c.in_ok-sort.ensures.sort

pub add-requires-clause-new : goal.add-requires-clause-new
add-requires-clause-new c =
    let padded = padded-as c.args.self.now
    (record { op = c.args.op; args = c.args.args.now }) c.in_ok-sort.sort c.new-node.result
    c.in_ok-sort.ensures.sort c.new-node.ensures in
    subst (λ (table : Table). ¬ (Contains table.nodes (entry_of c.new-node.result))) c.self.view_is
    (missing-node c.self.inside.pointer c.self.inside.nodes.entries c.self.invariant c.new-node.result padded
    (sym c.in-None.ensures.index))

pub returns-in-Some-clause-made : goal.returns-in-Some-clause-made
returns-in-Some-clause-made c =
    let seen = seen-as c.args.self.now
    (record { op = c.args.op; args = c.args.args.now }) c.in_ok-sort.sort c.new-node.result
    c.in_ok-sort.ensures.sort c.new-node.ensures in
    let stands = ap (λ (table : Table). slice_get table.nodes c.in-Some.place) (sym c.self.view_is)
    ∙ found-node c.self.inside.pointer c.self.inside.nodes.entries c.new-node.result c.in-Some.place
    (sym c.in-Some.ensures.index) ∙ ap Some seen in
    record {
      stands = stands;
      nodes =
          inl (Contains-from_slice_get c.args.self.now.nodes c.in-Some.place _ stands, refl);
    }

pub returns-in-Some-clause-term : goal.returns-in-Some-clause-term
returns-in-Some-clause-term c =
    let seen = seen-as c.args.self.now
    (record { op = c.args.op; args = c.args.args.now }) c.in_ok-sort.sort c.new-node.result
    c.in_ok-sort.ensures.sort c.new-node.ensures in
    term_at-node c.args.self.now (subst IsTable c.self.view_is c.self.invariant.table)
    (record { 0 = c.in-Some.place }) _
    (ap (λ (table : Table). slice_get table.nodes c.in-Some.place) (sym c.self.view_is)
    ∙ found-node c.self.inside.pointer c.self.inside.nodes.entries c.new-node.result c.in-Some.place
    (sym c.in-Some.ensures.index) ∙ ap Some seen)

pub returns-in-Some-clause-sort : goal.returns-in-Some-clause-sort
returns-in-Some-clause-sort c = ap (sort_of c.args.self.now.pointer) (returns-in-Some-clause-term c)

pub returns-in-None-clause-made : goal.returns-in-None-clause-made
returns-in-None-clause-made c =
    let seen = seen-as c.args.self.now
    (record { op = c.args.op; args = c.args.args.now }) c.in_ok-sort.sort c.new-node.result
    c.in_ok-sort.ensures.sort c.new-node.ensures in
    let padded = padded-as c.args.self.now
    (record { op = c.args.op; args = c.args.args.now }) c.in_ok-sort.sort c.new-node.result
    c.in_ok-sort.ensures.sort c.new-node.ensures in
    let absent = subst (λ (table : Table). ¬ (Contains table.nodes (entry_of c.new-node.result))) c.self.view_is
    (missing-node c.self.inside.pointer c.self.inside.nodes.entries c.self.invariant c.new-node.result padded
    (sym c.in-None.ensures.index)) in
    subst (λ e. IfOk c.add.result (Makes c.args.self.now e c.add.new.self)) seen
    (made-added c.args.self.now (entry_of c.new-node.result) c.add.new.self c.add.result
    (c.add.ensures.place, c.add.ensures.added, c.add.ensures.err) absent)

pub returns-in-None-clause-kept : goal.returns-in-None-clause-kept
returns-in-None-clause-kept c =
    kept-added c.args.self.now (entry_of c.new-node.result) c.add.new.self c.add.result
    (c.add.ensures.place, c.add.ensures.added, c.add.ensures.err)

pub returns-in-None-clause-term : goal.returns-in-None-clause-term
returns-in-None-clause-term c =
    let seen = seen-as c.args.self.now
    (record { op = c.args.op; args = c.args.args.now }) c.in_ok-sort.sort c.new-node.result
    c.in_ok-sort.ensures.sort c.new-node.ensures in
    subst (λ (e : Entry).
    IfOk c.add.result (λ id. term_at c.add.new.self id ≡ Apply e.op (operands (terms_of c.args.self.now) e.args)))
    seen
    (term-added c.args.self.now (entry_of c.new-node.result) c.add.new.self c.add.result
    (c.add.ensures.place, c.add.ensures.added, c.add.ensures.err))

pub returns-in-None-clause-sort : goal.returns-in-None-clause-sort
returns-in-None-clause-sort c =
    IfOk-weaker c.add.result _ _ (λ id e. ap (sort_of c.args.self.now.pointer) e) (returns-in-None-clause-term c)
