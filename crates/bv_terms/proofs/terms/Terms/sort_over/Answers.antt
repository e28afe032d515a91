-- The sorts of the nodes' terms decide.
use Rattle.std.proofs.Common.{◌≡◌, [], ◌∷◌, ap, ◌∙◌}
use Rattle.bv_terms.specs.declared.op.TermId.{TermId}
use Rattle.bv_terms.specs.Term.{End}
use Rattle.bv_terms.specs.WellSorted.{sorts_of}
use Rattle.bv_terms.specs.Table.{Table, operands, terms_of}
use Rattle.bv_terms.proofs.MakeLemmas.{sorts_of-end, sorts_of-then}
use Rattle.bv_terms.proofs.MakeLemmas.{fault-from_sorts, sort-from_sorts, refused_past_arity}
use Rattle.bv_terms.proofs.terms.Terms.sort_over.Goals as goal
use Rattle.list_lemmas.proofs.Lists.{empty_list}
use Rattle.list_lemmas.proofs.Lookups.{one_element, two_elements, three_elements}

abbrev zeroth : TermId
zeroth = record { 0 = 0 }

pointer-same : {a b : Table} → a ≡ b → a.pointer ≡ b.pointer
pointer-same same = ap (λ (t : Table). t.pointer) same

pub returns-in-empty-clause-fault : goal.returns-in-empty-clause-fault
returns-in-empty-clause-fault c =
    let sorts = ap (λ args. sorts_of c.args.self.now.pointer (operands (terms_of c.args.self.now) args))
    (empty_list c.args.args.now c.in-empty.len_below) ∙ sorts_of-end c.args.self.now.pointer in
    fault-from_sorts c.args.self.now c.self.inside.pointer (pointer-same c.self.view_is) c.args.op c.args.args.now []
    c.sort_over.result sorts c.sort_over.ensures

pub returns-in-empty-clause-sort : goal.returns-in-empty-clause-sort
returns-in-empty-clause-sort c =
    let sorts = ap (λ args. sorts_of c.args.self.now.pointer (operands (terms_of c.args.self.now) args))
    (empty_list c.args.args.now c.in-empty.len_below) ∙ sorts_of-end c.args.self.now.pointer in
    sort-from_sorts c.args.self.now c.self.inside.pointer (pointer-same c.self.view_is) c.args.op c.args.args.now []
    c.sort_over.result sorts c.sort_over.ensures

pub returns-in-len1-clause-fault : goal.returns-in-len1-clause-fault
returns-in-len1-clause-fault c =
    let sorts = ap (λ args. sorts_of c.args.self.now.pointer (operands (terms_of c.args.self.now) args))
    (one_element c.args.args.now zeroth c.in-len1.len_at_least c.in-len1.len_below)
    ∙ sorts_of-then c.args.self.now.pointer _ End c.sort.result [] c.sort.ensures
    (sorts_of-end c.args.self.now.pointer) in
    fault-from_sorts c.args.self.now c.self.inside.pointer (pointer-same c.self.view_is) c.args.op c.args.args.now
    (c.sort.result ∷ []) c.sort_over-in-len1.result sorts c.sort_over-in-len1.ensures

pub returns-in-len1-clause-sort : goal.returns-in-len1-clause-sort
returns-in-len1-clause-sort c =
    let sorts = ap (λ args. sorts_of c.args.self.now.pointer (operands (terms_of c.args.self.now) args))
    (one_element c.args.args.now zeroth c.in-len1.len_at_least c.in-len1.len_below)
    ∙ sorts_of-then c.args.self.now.pointer _ End c.sort.result [] c.sort.ensures
    (sorts_of-end c.args.self.now.pointer) in
    sort-from_sorts c.args.self.now c.self.inside.pointer (pointer-same c.self.view_is) c.args.op c.args.args.now
    (c.sort.result ∷ []) c.sort_over-in-len1.result sorts c.sort_over-in-len1.ensures

pub returns-in-len2-clause-fault : goal.returns-in-len2-clause-fault
returns-in-len2-clause-fault c =
    let sorts = ap (λ args. sorts_of c.args.self.now.pointer (operands (terms_of c.args.self.now) args))
    (two_elements c.args.args.now zeroth c.in-len2.len_at_least c.in-len2.len_below)
    ∙ sorts_of-then c.args.self.now.pointer _ _ c.sort-in-len2.result (c.sort-in-len2-2.result ∷ [])
    c.sort-in-len2.ensures
    (sorts_of-then c.args.self.now.pointer _ End c.sort-in-len2-2.result [] c.sort-in-len2-2.ensures
    (sorts_of-end c.args.self.now.pointer)) in
    fault-from_sorts c.args.self.now c.self.inside.pointer (pointer-same c.self.view_is) c.args.op c.args.args.now
    (c.sort-in-len2.result ∷ c.sort-in-len2-2.result ∷ []) c.sort_over-in-len2.result sorts
    c.sort_over-in-len2.ensures

pub returns-in-len2-clause-sort : goal.returns-in-len2-clause-sort
returns-in-len2-clause-sort c =
    let sorts = ap (λ args. sorts_of c.args.self.now.pointer (operands (terms_of c.args.self.now) args))
    (two_elements c.args.args.now zeroth c.in-len2.len_at_least c.in-len2.len_below)
    ∙ sorts_of-then c.args.self.now.pointer _ _ c.sort-in-len2.result (c.sort-in-len2-2.result ∷ [])
    c.sort-in-len2.ensures
    (sorts_of-then c.args.self.now.pointer _ End c.sort-in-len2-2.result [] c.sort-in-len2-2.ensures
    (sorts_of-end c.args.self.now.pointer)) in
    sort-from_sorts c.args.self.now c.self.inside.pointer (pointer-same c.self.view_is) c.args.op c.args.args.now
    (c.sort-in-len2.result ∷ c.sort-in-len2-2.result ∷ []) c.sort_over-in-len2.result sorts
    c.sort_over-in-len2.ensures

pub returns-in-len3-clause-fault : goal.returns-in-len3-clause-fault
returns-in-len3-clause-fault c =
    let p = c.args.self.now.pointer in
    let sorts = ap (λ args. sorts_of p (operands (terms_of c.args.self.now) args))
    (three_elements c.args.args.now zeroth c.in-len3.len_at_least c.in-len3.len_below)
    ∙ sorts_of-then p _ _ c.sort-in-len3.result (c.sort-in-len3-2.result ∷ c.sort-in-len3-3.result ∷ [])
    c.sort-in-len3.ensures
    (sorts_of-then p _ _ c.sort-in-len3-2.result (c.sort-in-len3-3.result ∷ []) c.sort-in-len3-2.ensures
    (sorts_of-then p _ End c.sort-in-len3-3.result [] c.sort-in-len3-3.ensures (sorts_of-end p))) in
    fault-from_sorts c.args.self.now c.self.inside.pointer (pointer-same c.self.view_is) c.args.op c.args.args.now
    (c.sort-in-len3.result ∷ c.sort-in-len3-2.result ∷ c.sort-in-len3-3.result ∷ []) c.sort_over-in-len3.result sorts
    c.sort_over-in-len3.ensures

pub returns-in-len3-clause-sort : goal.returns-in-len3-clause-sort
returns-in-len3-clause-sort c =
    let p = c.args.self.now.pointer in
    let sorts = ap (λ args. sorts_of p (operands (terms_of c.args.self.now) args))
    (three_elements c.args.args.now zeroth c.in-len3.len_at_least c.in-len3.len_below)
    ∙ sorts_of-then p _ _ c.sort-in-len3.result (c.sort-in-len3-2.result ∷ c.sort-in-len3-3.result ∷ [])
    c.sort-in-len3.ensures
    (sorts_of-then p _ _ c.sort-in-len3-2.result (c.sort-in-len3-3.result ∷ []) c.sort-in-len3-2.ensures
    (sorts_of-then p _ End c.sort-in-len3-3.result [] c.sort-in-len3-3.ensures (sorts_of-end p))) in
    sort-from_sorts c.args.self.now c.self.inside.pointer (pointer-same c.self.view_is) c.args.op c.args.args.now
    (c.sort-in-len3.result ∷ c.sort-in-len3-2.result ∷ c.sort-in-len3-3.result ∷ []) c.sort_over-in-len3.result sorts
    c.sort_over-in-len3.ensures

pub returns-in_default-clause-fault : goal.returns-in_default-clause-fault
returns-in_default-clause-fault c =
    refused_past_arity c.args.self.now c.requires.table c.args.op c.args.args.now c.requires.args
    c.in_default.len_at_least
