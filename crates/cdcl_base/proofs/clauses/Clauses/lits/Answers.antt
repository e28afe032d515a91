use Rattle.std.proofs.Common.{◌≡◌, ◌-◌, List, Some, ap, sym, ◌∙◌, take, drop, length}
use Rattle.std.proofs.Common.{slice_get, arith}
use Rattle.cnf_core.specs.declared.clause.Clause.{Clause}
use Rattle.cnf_core.specs.Resolution.{clause}
use Rattle.cdcl_base.specs.ClauseLists.{start_of}
use Rattle.cdcl_base.proofs.ClauseLemmas.{length-clauses_of, clause_at, ends_at}
use Rattle.cdcl_base.proofs.clauses.Clauses.lits.Goals as goal

pub start_of-start-requires : goal.start_of-start-requires
start_of-start-requires c =
    let size = length-clauses_of c.self.inside.lits.items 0 c.self.inside.ends.items in
    let there = ap (λ (cs : List Clause). length cs) c.self.view_is in
    omega (arith, size, there, c.requires, ap length c.as_slice.ensures.value)

pub index-requires : goal.index-requires
index-requires c =
    let size = length-clauses_of c.self.inside.lits.items 0 c.self.inside.ends.items in
    let there = ap (λ (cs : List Clause). length cs) c.self.view_is in
    omega (arith, size, there, c.requires)

pub part-requires-clause-start : goal.part-requires-clause-start
part-requires-clause-start c =
    let size = length-clauses_of c.self.inside.lits.items 0 c.self.inside.ends.items in
    let there = ap (λ (cs : List Clause). length cs) c.self.view_is in
    let start : c.start_of-start.result ≡ start_of 0 c.self.inside.ends.items c.args.number =
    c.start_of-start.ensures ∙ ap (λ es. start_of 0 es c.args.number) c.as_slice.ensures.value in
    let within =
    (ends_at 0 c.self.inside.ends.items (length c.self.inside.lits.items) c.args.number c.index.result.now
    c.self.invariant (omega (arith, size, there, c.requires))).0 in
    omega (arith, start, within, c.index.ensures)

pub part-requires-clause-end : goal.part-requires-clause-end
part-requires-clause-end c =
    let size = length-clauses_of c.self.inside.lits.items 0 c.self.inside.ends.items in
    let there = ap (λ (cs : List Clause). length cs) c.self.view_is in
    let within =
    (ends_at 0 c.self.inside.ends.items (length c.self.inside.lits.items) c.args.number c.index.result.now
    c.self.invariant (omega (arith, size, there, c.requires))).1 in
    omega (arith, within, c.index.ensures, ap length c.as_slice-2.ensures.value)

pub returns : goal.returns
returns c =
    let size = length-clauses_of c.self.inside.lits.items 0 c.self.inside.ends.items in
    let there = ap (λ (cs : List Clause). length cs) c.self.view_is in
    let start : c.start_of-start.result ≡ start_of 0 c.self.inside.ends.items c.args.number =
    c.start_of-start.ensures ∙ ap (λ es. start_of 0 es c.args.number) c.as_slice.ensures.value in
    ap (λ (cs : List Clause). slice_get cs c.args.number) (sym c.self.view_is)
    ∙ clause_at c.self.inside.lits.items 0 c.self.inside.ends.items c.args.number c.index.result.now
    (omega (arith, size, there, c.requires))
    ∙ (λ i. Some (clause (take (sym c.index.ensures i - sym start i)
    (drop (sym start i) (sym c.as_slice-2.ensures.value i)))))
    ∙ ap (λ ls. Some (clause ls)) (sym c.part.ensures)
