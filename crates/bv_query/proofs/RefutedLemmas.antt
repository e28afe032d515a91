-- The test of an accepted log.
use Rattle.std.proofs.Common.{◌≡◌, ◌∙◌, Bool, true, false, List, [], ◌∷◌, Option, Some, None, Contains, refl, sym, ap}
use Rattle.std.proofs.Common.{subst, inl, inr}
use Rattle.std.specs.List.{list_any}
use Rattle.cnf_core.specs.declared.clause.Lit.{Lit}
use Rattle.cnf_core.specs.declared.clause.Clause.{Clause}
use Rattle.cnf_core.specs.declared.log.Chain.{Chain}
use Rattle.cnf_core.specs.Resolution.{clause, with_chains, IsAccepted}
use Rattle.bv_query.specs.Refuted.{is_empty, has_empty, is_accepted}
use Rattle.list_lemmas.proofs.Bools.{or-cases, or-left, or-right}
use Rattle.list_lemmas.proofs.Lookups.{Contains-first, Contains-later}
use Rattle.list_lemmas.proofs.Members.{In, In-from_Contains}

is-clause : (c : Clause) → is_empty c.lits ≡ true → c ≡ clause []
is-clause c h = ap clause (none c.lits h)
  where
    none : (ls : List Lit) → is_empty ls ≡ true → ls ≡ []
    none [] h = refl
    none (l ∷ ls) h = absurd (let bad : false ≡ true = h in cc)

empty-there : (cs : List Clause) → list_any (λ (c : Clause). is_empty c.lits) cs ≡ true → Contains cs (clause [])
empty-there [] h = absurd (let bad : false ≡ true = h in cc)
empty-there (c ∷ cs) h = elim (or-cases (is_empty c.lits) (list_any (λ (d : Clause). is_empty d.lits) cs) h) [
  | inl here ↦ subst (Contains (c ∷ cs)) (is-clause c here) (Contains-first c cs)
  | inr later ↦ Contains-later c (clause []) cs (empty-there cs later)
]

there-empty : (cs : List Clause) → In cs (clause []) → list_any (λ (c : Clause). is_empty c.lits) cs ≡ true
there-empty [] at = absurd at
there-empty (c ∷ cs) (inl same) =
    or-left (is_empty c.lits) (list_any (λ (d : Clause). is_empty d.lits) cs)
    (ap (λ (d : Clause). is_empty d.lits) same)
there-empty (c ∷ cs) (inr later) =
    or-right (is_empty c.lits) (list_any (λ (d : Clause). is_empty d.lits) cs) (there-empty cs later)

pub accepted-test : (cs : List Clause) (chains : List Chain) → IsAccepted cs chains → is_accepted cs chains ≡ true
accepted-test cs chains h = ap has_empty h.1 ∙ there-empty h.0 (In-from_Contains h.0 (clause []) h.2)

pub test-accepted : (cs : List Clause) (chains : List Chain) → is_accepted cs chains ≡ true → IsAccepted cs chains
test-accepted cs chains h = by (with_chains cs chains) refl h
  where
    by : (o : Option (List Clause)) → with_chains cs chains ≡ o → has_empty o ≡ true → IsAccepted cs chains
    by None e has = absurd (let bad : false ≡ true = has in cc)
    by (Some all) e has = (all, e, empty-there all has)
