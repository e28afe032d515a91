use Rattle.std.proofs.Common.{◌≡◌, ◌∙◌, ◌<◌, ℕ, true, List, Bool, All, map, sym, ap, subst}
use Rattle.bv_terms.specs.declared.op.TermId.{TermId}
use Rattle.bv_terms.specs.declared.value.Value.{Value}
use Rattle.bv_terms.specs.Table.{term_at}
use Rattle.cnf_core.specs.Clause.{assigned, is_model}
use Rattle.bv_query.specs.Inputs.{AreInputsOf}
use Rattle.bv_query.specs.Values.{values_of}
use Rattle.bv_query.specs.Session.{Asserted, formulas_in, IsRightSession}
use Rattle.bv_query.specs.Decision.{IsWitness}
use Rattle.bv_query.proofs.InputLemmas.{Numbered}
use Rattle.bv_query.proofs.ValueLemmas.{Listed}
use Rattle.bv_query.proofs.WitnessLemmas.{listed-small, witness}
use Rattle.bv_query.proofs.session.Session.environment.Goals as goal

pub values_of-requires : goal.values_of-requires
values_of-requires c =
    let table = c.args.terms.now in
    let s : Asserted = record { blast = c.self.inside.blaster; clauses = c.self.inside.solver } in
    let right = subst (λ (s : Asserted). IsRightSession s table) (sym c.self.view_is) c.requires.right in
    subst (All (λ (b : Listed). b.1 < 64)) (sym (c.as_slice-bits.ensures ∙ c.blasted.ensures.bits))
    (listed-small table c.len-count.ensures.table s right)

pub returns : goal.returns
returns c =
    let table = c.args.terms.now in
    let s : Asserted = record { blast = c.self.inside.blaster; clauses = c.self.inside.solver } in
    let right = subst (λ (s : Asserted). IsRightSession s table) (sym c.self.view_is) c.requires.right in
    let holds : is_model (assigned c.args.model.now) s.clauses.clauses ≡ true =
    ap (λ (s : Asserted). is_model (assigned c.args.model.now) s.clauses.clauses) c.self.view_is
    ∙ c.requires.model.1 in
    let inputs = c.in_ok-inputs.inputs.items in
    let are = subst (λ (fs : List TermId). AreInputsOf (map (term_at table) fs) inputs) c.formulas.ensures
    c.in_ok-inputs.ensures in
    let values = c.from_vec.ensures ∙ c.in_ok-values.ensures
    ∙ ap (λ (is : List Numbered). values_of is c.as_slice-bits.result.now c.args.model.now) c.deref.ensures.value
    ∙ ap (λ (bits : List Listed). values_of inputs bits c.args.model.now)
    (c.as_slice-bits.ensures ∙ c.blasted.ensures.bits) in
    subst (λ (s : Asserted). IsWitness (formulas_in table s) c.from_vec.result) c.self.view_is
    (subst (IsWitness (formulas_in table s)) (sym values)
    (witness table c.len-count.ensures.table s right inputs are c.args.model.now holds))
