-- Logs of chains that each say something new.
use Rattle.std.proofs.Common.{◌≡◌, ℕ, suc, ◌<◌, ◌+◌, List, [], ◌∷◌, ◌++◌, sym, ap, ◌∙◌, subst, length}
use Rattle.std.proofs.Common.{get_or, take, drop, Some, None, option_and_then, take-append-drop}
use Rattle.std.proofs.Common.{drop-cons}
use Rattle.std.proofs.lemmas.List.{take_more}
use Rattle.std.proofs.lemmas.List.Elements.{All-append}
use Rattle.std.proofs.lemmas.Option.{none-some, same_Some}
use Rattle.cnf_core.specs.declared.clause.Lit.{Lit}
use Rattle.cnf_core.specs.declared.clause.Clause.{Clause}
use Rattle.cnf_core.specs.declared.log.Chain.{Chain}
use Rattle.cnf_core.specs.Clause.{contains, AreSame, IsSubset}
use Rattle.cnf_core.specs.Resolution.{derived, clause, with_chains, IsNewClause, AreNewClauses}
use Rattle.cnf_core.proofs.Sets.{AreSame-sym, AreSame-trans}
use Rattle.cnf_core.proofs.Same.{AllSame, AllSame-sym, derived-same, same-Some, same-None, IsNewClause-same}
use Rattle.cnf_core.proofs.Chains.{AreNewClauses-more}
use Rattle.proof_check.specs.LitSet.{Literals}
use Rattle.proof_check.proofs.LogLemmas.{Derives}
use Rattle.list_lemmas.proofs.Lookups.{All-front as all-left, all-right}

-- new beside two lists is new beside both together
pub new_clause-append : (cs ds : List Clause) (c : List Lit) → IsNewClause cs c → IsNewClause ds c →
    IsNewClause (cs ++ ds) c
new_clause-append cs ds c u w =
    record {
      not_tautology = u.not_tautology;
      not_subsumed = All-append (λ (d : Clause). IsSubset d.lits c → ⊥) cs ds
          u.not_subsumed w.not_subsumed;
    }

pub new_clause-left : (cs ds : List Clause) (c : List Lit) → IsNewClause (cs ++ ds) c → IsNewClause cs c
new_clause-left cs ds c u =
    record {
      not_tautology = u.not_tautology;
      not_subsumed = all-left (λ (d : Clause). IsSubset d.lits c → ⊥) cs ds
          u.not_subsumed;
    }

pub new_clause-right : (cs ds : List Clause) (c : List Lit) → IsNewClause (cs ++ ds) c → IsNewClause ds c
new_clause-right cs ds c u =
    record {
      not_tautology = u.not_tautology;
      not_subsumed = all-right (λ (d : Clause). IsSubset d.lits c → ⊥) cs ds
          u.not_subsumed;
    }

-- the chain after some of a log of new clauses
abbrev pub NextIsNewClause : List Clause → Chain → Type 0
NextIsNewClause all chain = (lits : List Lit) × (derived all chain ≡ Some lits) × IsNewClause all lits

new_clauses-next : (xs : List Chain) (cs all : List Clause) (chain : Chain) (more : List Chain) →
    AreNewClauses cs (xs ++ chain ∷ more) → with_chains cs xs ≡ Some all → NextIsNewClause all chain
new_clauses-next [] cs all chain more u h = subst (λ x. NextIsNewClause x chain) (same_Some cs all h) (u.0, u.1, u.2)
new_clauses-next (x ∷ xs) cs all chain more u h =
    new_clauses-next xs (cs ++ clause u.0 ∷ []) all chain more u.3
    (sym (ap (option_and_then (λ lits. with_chains (cs ++ clause lits ∷ []) xs)) u.1) ∙ h)

-- a list as its front, a member and the rest
parted : (chains : List Chain) (i : ℕ) (d : Chain) → i < length chains →
    chains ≡ take i chains ++ get_or chains i d ∷ drop (suc i) chains
parted chains i d h = sym (take-append-drop i chains) ∙ ap (λ rest. take i chains ++ rest) (drop-cons chains i d h)

pub new_clauses-at : (variables : ℕ) (clauses : List Clause) (chains : List Chain) (i : ℕ) (chain : Chain)
    (so_far : Literals) (earlier : List Clause) →
    i < length chains → chain ≡ get_or chains i chain → (d : Derives variables clauses (take i chains) so_far earlier) →
    AreNewClauses clauses chains → NextIsNewClause d.all chain
new_clauses-at variables clauses chains i chain so_far earlier within is d u =
    new_clauses-next (take i chains) clauses d.all chain (drop (suc i) chains)
    (subst (AreNewClauses clauses)
    (parted chains i chain within ∙ ap (λ x. take i chains ++ x ∷ drop (suc i) chains) (sym is)) u) d.resolve

-- a chain that does not resolve
pub not-new_clauses-bad : (variables : ℕ) (clauses : List Clause) (chains : List Chain) (i : ℕ) (chain : Chain)
    (so_far : Literals) (earlier : List Clause) →
    i < length chains → chain ≡ get_or chains i chain → Derives variables clauses (take i chains) so_far earlier →
    derived (clauses ++ earlier) chain ≡ None →
    AreNewClauses clauses chains → ⊥
not-new_clauses-bad variables clauses chains i chain so_far earlier within is d bad u =
    let next = new_clauses-at variables clauses chains i chain so_far earlier within is d u in
    none-some next.0
    (sym
    (same-None (derived d.all chain) (derived (clauses ++ earlier) chain)
    (derived-same d.all (clauses ++ earlier) chain d.same) bad) ∙ next.1)

-- the clause of the next chain, as the kept clauses have it
found-same : (all cs : List Clause) (chain : Chain) (lits c found : List Lit) → AllSame all cs →
    derived all chain ≡ Some lits → derived cs chain ≡ Some c → AreSame c found → AreSame lits found
found-same all cs chain lits c found same h k e =
    let mine = same-Some (derived all chain) (derived cs chain) c (derived-same all cs chain same) k in
    AreSame-trans lits c found (λ l. ap (λ x. contains x l) (same_Some lits mine.0 (sym h ∙ mine.1)) ∙ mine.2 l) e

pub not-new_clauses-old : (variables : ℕ) (clauses : List Clause) (chains : List Chain) (i : ℕ) (chain : Chain)
    (so_far : Literals) (earlier : List Clause) (found : Clause) →
    i < length chains → chain ≡ get_or chains i chain → Derives variables clauses (take i chains) so_far earlier →
    ((c : List Lit) × (derived (clauses ++ earlier) chain ≡ Some c) × AreSame c found.lits) →
    (IsNewClause (clauses ++ earlier) found.lits → ⊥) →
    AreNewClauses clauses chains → ⊥
not-new_clauses-old variables clauses chains i chain so_far earlier found within is d gave old u =
    let next = new_clauses-at variables clauses chains i chain so_far earlier within is d u in
    let same = found-same d.all (clauses ++ earlier) chain next.0 gave.0 found.lits d.same next.1 gave.1 gave.2 in
    old (IsNewClause-same (clauses ++ earlier) d.all found.lits next.0 (AllSame-sym d.all (clauses ++ earlier) d.same)
    (AreSame-sym next.0 found.lits same) next.2)

pub new_clauses-more : (variables : ℕ) (clauses : List Clause) (chains : List Chain) (i : ℕ) (chain : Chain)
    (so_far : Literals) (earlier : List Clause) (found : Clause) →
    i < length chains → chain ≡ get_or chains i chain → Derives variables clauses (take i chains) so_far earlier →
    ((c : List Lit) × (derived (clauses ++ earlier) chain ≡ Some c) × AreSame c found.lits) →
    IsNewClause (clauses ++ earlier) found.lits →
    AreNewClauses clauses (take i chains) → AreNewClauses clauses (take (i + 1) chains)
new_clauses-more variables clauses chains i chain so_far earlier found within is d gave new_clause u =
    let mine =
    same-Some (derived d.all chain) (derived (clauses ++ earlier) chain) gave.0
    (derived-same d.all (clauses ++ earlier) chain d.same) gave.1 in
    subst (AreNewClauses clauses) (sym (take_more chains i chain within ∙ ap (λ x. take i chains ++ x ∷ []) (sym is)))
    (AreNewClauses-more (take i chains) clauses chain d.all mine.0 u d.resolve mine.1
    (IsNewClause-same d.all (clauses ++ earlier) mine.0 found.lits d.same
    (AreSame-trans mine.0 gave.0 found.lits mine.2 gave.2) new_clause))
