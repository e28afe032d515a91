-- Logs that grow: one more step of a chain, one more chain of a log.
use Rattle.std.proofs.Common.{◌≡◌, ℕ, List, [], ◌∷◌, ◌++◌, Some, None, refl, subst, sym, ap, ◌∙◌}
use Rattle.std.proofs.Common.{option_and_then}
use Rattle.std.proofs.lemmas.Option.{same_Some}
use Rattle.cnf_core.specs.declared.clause.Lit.{Lit}
use Rattle.cnf_core.specs.declared.clause.Clause.{Clause}
use Rattle.cnf_core.specs.declared.log.Chain.{Chain}
use Rattle.cnf_core.specs.Resolution.{step, after_steps, derived, clause, with_chains, IsNewClause, AreNewClauses}
use Rattle.list_lemmas.proofs.Options.{bind-bind}

-- steps, and then more of them
pub after_steps-append : (cs : List Clause) (ss ts : List (Lit × ℕ)) (c : List Lit) →
    after_steps cs c (ss ++ ts) ≡ option_and_then (λ d. after_steps cs d ts) (after_steps cs c ss)
after_steps-append cs [] ts c = refl
after_steps-append cs (s ∷ ss) ts c =
    ap (λ f. option_and_then f (step cs c s)) (λ i d. after_steps-append cs ss ts d i)
    ∙ sym (bind-bind (step cs c s) (λ d. after_steps cs d ss) (λ d. after_steps cs d ts))

pub after_steps-more : (cs : List Clause) (ss : List (Lit × ℕ)) (s : Lit × ℕ) (c d e : List Lit) →
    after_steps cs c ss ≡ Some d → step cs d s ≡ Some e → after_steps cs c (ss ++ s ∷ []) ≡ Some e
after_steps-more cs ss s c d e h k =
    after_steps-append cs ss (s ∷ []) c
    ∙ ap (option_and_then (λ x. after_steps cs x (s ∷ []))) h
    ∙ ap (option_and_then (λ x. after_steps cs x [])) k

-- chains, and then more of them
pub with_chains-append : (xs ys : List Chain) (cs : List Clause) →
    with_chains cs (xs ++ ys) ≡ option_and_then (λ all. with_chains all ys) (with_chains cs xs)
with_chains-append [] ys cs = refl
with_chains-append (x ∷ xs) ys cs =
    ap (λ f. option_and_then f (derived cs x)) (λ i lits. with_chains-append xs ys (cs ++ clause lits ∷ []) i)
    ∙ sym (bind-bind (derived cs x) (λ lits. with_chains (cs ++ clause lits ∷ []) xs) (λ all. with_chains all ys))

pub with_chains-more : (cs : List Clause) (chains : List Chain) (chain : Chain) (all : List Clause) (lits : List Lit) →
    with_chains cs chains ≡ Some all → derived all chain ≡ Some lits →
    with_chains cs (chains ++ chain ∷ []) ≡ Some (all ++ clause lits ∷ [])
with_chains-more cs chains chain all lits h k =
    with_chains-append chains (chain ∷ []) cs
    ∙ ap (option_and_then (λ x. with_chains x (chain ∷ []))) h
    ∙ ap (option_and_then (λ x. with_chains (all ++ clause x ∷ []) [])) k

-- a chain that does not resolve, after chains that do
pub with_chains-bad : (cs : List Clause) (chains : List Chain) (chain : Chain) (more : List Chain) (all : List Clause) →
    with_chains cs chains ≡ Some all → derived all chain ≡ None → with_chains cs (chains ++ chain ∷ more) ≡ None
with_chains-bad cs chains chain more all h k =
    with_chains-append chains (chain ∷ more) cs
    ∙ ap (option_and_then (λ x. with_chains x (chain ∷ more))) h
    ∙ ap (option_and_then (λ x. with_chains (all ++ clause x ∷ []) more)) k

-- one more new clause
pub AreNewClauses-more : (chains : List Chain) (cs : List Clause) (chain : Chain) (all : List Clause)
    (lits : List Lit) →
    AreNewClauses cs chains → with_chains cs chains ≡ Some all → derived all chain ≡ Some lits → IsNewClause all lits →
    AreNewClauses cs (chains ++ chain ∷ [])
AreNewClauses-more [] cs chain all lits u h k new =
    let same = same_Some cs all h in
    (lits, ap (λ x. derived x chain) same ∙ k, subst (λ x. IsNewClause x lits) (sym same) new, tt)
AreNewClauses-more (x ∷ xs) cs chain all lits u h k new = (
  u.0,
  u.1,
  u.2,
  AreNewClauses-more xs (cs ++ clause u.0 ∷ []) chain all lits u.3
      (sym (ap (option_and_then (λ y. with_chains (cs ++ clause y ∷ []) xs)) u.1) ∙ h) k new,
)
