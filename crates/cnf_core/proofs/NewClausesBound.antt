-- How many clauses over n variables there can be, where none is a tautology and no earlier one is a subset of a later
-- one: at most 3^n, since each of them has a row of signs (absent, positive or negative) of its own.
use Rattle.std.proofs.Common.{◌≡◌, ℕ, zero, suc, ◌+◌, ◌*◌, ◌^◌, ◌<◌, ◌≤◌, Bool, true, false, cond, eqb, filter, List}
use Rattle.std.proofs.Common.{[], ◌∷◌, ◌++◌, length, map, Some, All, Contains, refl, sym, ap, ◌∙◌, subst, inl, inr}
use Rattle.std.proofs.Common.{arith, pow-suc, append-nil, append_assoc}
use Rattle.std.specs.Prelude.{option_and_then}
use Rattle.std.specs.List.{AllByRecursion}
use Rattle.std.proofs.lemmas.Bool.{cases_lt, eqb-true, false≢true}
use Rattle.std.proofs.lemmas.List.{length_push}
use Rattle.std.proofs.lemmas.List.Elements.{All-nil, All-push, All-contains, Contains-push}
use Rattle.std.proofs.lemmas.List.Elements.{Contains-append_right}
use Rattle.std.proofs.lemmas.Option.{same_Some}
use Rattle.cnf_core.specs.declared.clause.Lit.{Lit}
use Rattle.cnf_core.specs.declared.clause.Clause.{Clause}
use Rattle.cnf_core.specs.declared.log.Chain.{Chain}
use Rattle.cnf_core.specs.Clause.{opposite, contains, IsOver, IsSubset}
use Rattle.cnf_core.specs.Resolution.{clause, with_chains, HasNoEmptyClause, AreNewClauses}
use Rattle.cnf_core.proofs.Sets.{contains-head}
use Rattle.cnf_core.proofs.Over.{over-at, derived-over}
use Rattle.list_lemmas.proofs.Lookups.{All-front, AllByRecursion-push}

-- ---- rows

-- the rows of two elements are the same below v
abbrev Agree : {X : Type 0} → (X → ℕ → ℕ) → ℕ → X → X → Type 0
Agree s v x y = (k : ℕ) → k < v → s x k ≡ s y k

-- no two elements have the same row below v
abbrev Differ : {X : Type 0} → (X → ℕ → ℕ) → ℕ → List X → Type 0
Differ s v [] = Unit {0}
Differ s v (x ∷ xs) = AllByRecursion (λ y. Agree s v x y → ⊥) xs × Differ s v xs

-- the elements whose row has that sign at place v
abbrev part : {X : Type 0} → (X → ℕ → ℕ) → ℕ → ℕ → List X → List X
part s v t xs = filter (λ x. eqb (s x v) t) xs

agree_more : {X : Type 0} (s : X → ℕ → ℕ) (v : ℕ) (x y : X) → s x v ≡ s y v → Agree s v x y → Agree s (suc v) x y
agree_more s v x y e h k l =
    elim (cases_lt k v) [
      | inl less ↦ h k less
      | inr more ↦ (let here : k ≡ v = omega arith in ap (s x) here ∙ e ∙ ap (s y) (sym here))
    ]

-- rows with the same sign at v that differ below v + 1 differ below v
part_others : {X : Type 0} (s : X → ℕ → ℕ) (v t : ℕ) (x : X) → s x v ≡ t → (ys : List X) →
    AllByRecursion (λ y. Agree s (suc v) x y → ⊥) ys → AllByRecursion (λ y. Agree s v x y → ⊥) (part s v t ys)
part_others s v t x e [] h = tt
part_others {X} s v t x e (y ∷ ys) h = keep (eqb (s y v) t) refl (part_others s v t x e ys h.1)
  where
    keep : (b : Bool) → eqb (s y v) t ≡ b → AllByRecursion (λ z. Agree s v x z → ⊥) (part s v t ys) →
        AllByRecursion (λ z. Agree s v x z → ⊥) (cond b (y ∷ part s v t ys) (part s v t ys))
    keep true is rest = (λ same. h.0 (agree_more s v x y (e ∙ sym (eqb-true (s y v) t is)) same), rest)
    keep false is rest = rest

part_differs : {X : Type 0} (s : X → ℕ → ℕ) (v t : ℕ) (xs : List X) → Differ s (suc v) xs → Differ s v (part s v t xs)
part_differs s v t [] h = tt
part_differs {X} s v t (x ∷ xs) h = keep (eqb (s x v) t) refl (part_differs s v t xs h.1)
  where
    keep : (b : Bool) → eqb (s x v) t ≡ b → Differ s v (part s v t xs) →
        Differ s v (cond b (x ∷ part s v t xs) (part s v t xs))
    keep true is rest = (part_others s v t x (eqb-true (s x v) t is) xs h.0, rest)
    keep false is rest = rest

-- an element is in one of the three parts
parts : {X : Type 0} (s : X → ℕ → ℕ) (v : ℕ) → ((x : X) → s x v < 3) → (xs : List X) →
    length xs ≡ length (part s v 0 xs) + length (part s v 1 xs) + length (part s v 2 xs)
parts s v below [] = refl
parts {X} s v below (x ∷ xs) = by (s x v) (below x) (parts s v below xs)
  where
    by : (n : ℕ) → n < 3 → length xs ≡ length (part s v 0 xs) + length (part s v 1 xs) + length (part s v 2 xs)
        → suc (length xs) ≡ length (cond (eqb n 0) (x ∷ part s v 0 xs) (part s v 0 xs)) + length
        (cond (eqb n 1) (x ∷ part s v 1 xs) (part s v 1 xs)) + length
        (cond (eqb n 2) (x ∷ part s v 2 xs) (part s v 2 xs))
    by zero l h = omega (arith, h)
    by (suc zero) l h = omega (arith, h)
    by (suc (suc zero)) l h = omega (arith, h)
    by (suc (suc (suc n))) l h = absurd (omega (arith, l))

-- the three parts at the last place differ at the places before
few_rows : {X : Type 0} (s : X → ℕ → ℕ) → ((x : X) (k : ℕ) → s x k < 3) → (v : ℕ) (xs : List X) → Differ s v xs →
    length xs ≤ 3 ^ v
few_rows s below zero [] h = omega arith
few_rows s below zero (x ∷ []) h = omega arith
few_rows s below zero (x ∷ (y ∷ ys)) h = absurd (h.0.0 (λ k l. absurd (omega (arith, l))))
few_rows s below (suc v) xs h =
    let a : length (part s v 0 xs) ≤ 3 ^ v = few_rows s below v (part s v 0 xs) (part_differs s v 0 xs h) in
    let b : length (part s v 1 xs) ≤ 3 ^ v = few_rows s below v (part s v 1 xs) (part_differs s v 1 xs h) in
    let c : length (part s v 2 xs) ≤ 3 ^ v = few_rows s below v (part s v 2 xs) (part_differs s v 2 xs h) in
    let all : length xs ≡ length (part s v 0 xs) + length (part s v 1 xs) + length (part s v 2 xs) =
    parts s v (λ x. below x v) xs in
    let power : 3 ^ suc v ≡ 3 ^ v * 3 = pow-suc 3 v in
    rw power (omega arith)

-- ---- rows of clauses

abbrev lit : ℕ → Bool → Lit
lit k b = record { variable = k; positive = b }

-- 1 where a clause contains a variable, 2 where it contains its negation alone, 0 where it contains neither
abbrev mark : Bool → Bool → ℕ
mark a b = cond a 1 (cond b 2 0)

abbrev sign : List Lit → ℕ → ℕ
sign c k = mark (contains c (lit k true)) (contains c (lit k false))

sign_below : (a b : Bool) → mark a b < 3
sign_below true b = omega arith
sign_below false true = omega arith
sign_below false false = omega arith

sign_one : (a b : Bool) → mark a b ≡ 1 → a ≡ true
sign_one true b e = refl
sign_one false true e = absurd (omega (arith, e))
sign_one false false e = absurd (omega (arith, e))

sign_two : (a b : Bool) → mark a b ≡ 2 → b ≡ true
sign_two true b e = absurd (omega (arith, e))
sign_two false true e = refl
sign_two false false e = absurd (omega (arith, e))

-- no two opposite literals
abbrev pub IsNoTautology : List Lit → Type 0
IsNoTautology c = (l : Lit) → contains c l ≡ true → contains c (opposite l) ≡ false

-- a clause that is no tautology is a subset of each clause that has its row
row_subset : (variables : ℕ) (c d : List Lit) → IsOver variables c → IsNoTautology c → Agree sign variables c d →
    IsSubset c d
row_subset variables c d over not_tautology agree l h = by l.positive refl
  where
    same : sign c l.variable ≡ sign d l.variable
    same = agree l.variable (over-at variables c l over h)

    here : (b : Bool) → l.positive ≡ b → contains c (lit l.variable b) ≡ true
    here b e = ap (λ x. contains c (lit l.variable x)) (sym e) ∙ h

    back : (b : Bool) → l.positive ≡ b → contains d (lit l.variable b) ≡ true → contains d l ≡ true
    back b e k = ap (λ x. contains d (lit l.variable x)) e ∙ k

    by : (b : Bool) → l.positive ≡ b → contains d l ≡ true
    by true e =
        let one : sign c l.variable ≡ 1 = ap (λ x. mark x (contains c (lit l.variable false))) (here true e) in
        back true e (sign_one (contains d (lit l.variable true)) (contains d (lit l.variable false)) (sym same ∙ one))
    by false e =
        let absent : contains c (lit l.variable true) ≡ false = not_tautology (lit l.variable false) (here false e) in
        let two : sign c l.variable ≡ 2 = (λ i. mark (absent i) (here false e i)) in
        back false e (sign_two (contains d (lit l.variable true)) (contains d (lit l.variable false)) (sym same ∙ two))

-- no clause is a subset of a later one
abbrev pub AreNotSubsumed : List (List Lit) → Type 0
AreNotSubsumed [] = Unit {0}
AreNotSubsumed (c ∷ cs) = AllByRecursion (λ d. IsSubset c d → ⊥) cs × AreNotSubsumed cs

row_others : (variables : ℕ) (c : List Lit) → IsOver variables c → IsNoTautology c → (ds : List (List Lit)) →
    AllByRecursion (λ d. IsSubset c d → ⊥) ds → AllByRecursion (λ d. Agree sign variables c d → ⊥) ds
row_others variables c over not_tautology [] h = tt
row_others variables c over not_tautology (d ∷ ds) h =
    (λ agree. h.0 (row_subset variables c d over not_tautology agree), row_others variables c over not_tautology ds h.1)

rows_differ : (variables : ℕ) (cs : List (List Lit)) → AllByRecursion (IsOver variables) cs →
    AllByRecursion IsNoTautology cs → AreNotSubsumed cs → Differ sign variables cs
rows_differ variables [] over not_tautology new = tt
rows_differ variables (c ∷ cs) over not_tautology new =
    (row_others variables c over.0 not_tautology.0 cs new.0, rows_differ variables cs over.1 not_tautology.1 new.1)

pub few_clauses : (variables : ℕ) (cs : List (List Lit)) → AllByRecursion (IsOver variables) cs →
    AllByRecursion IsNoTautology cs → AreNotSubsumed cs → length cs ≤ 3 ^ variables
few_clauses variables cs over not_tautology new =
    few_rows sign (λ c k. sign_below (contains c (lit k true)) (contains c (lit k false))) variables cs
    (rows_differ variables cs over not_tautology new)

-- ---- the clauses of chains

-- the clauses of chains each of which says something new, with all that makes them few
record NewClauses (variables : ℕ) (cs : List Clause) (chains : List Chain) : Type 0 where
  lits : List (List Lit)
  long : length lits ≡ length chains
  over : AllByRecursion (IsOver variables) lits
  not_tautology : AllByRecursion IsNoTautology lits
  new : AreNotSubsumed lits
  apart : All (λ (c : Clause). AllByRecursion (λ d. IsSubset c.lits d → ⊥) lits) cs
  all : with_chains cs chains ≡ Some (cs ++ map clause lits)

new_clauses : (variables : ℕ) (cs : List Clause) (chains : List Chain) →
    All (λ (c : Clause). IsOver variables c.lits) cs → AreNewClauses cs chains → NewClauses variables cs chains
new_clauses variables cs [] over h = record {
  lits = [];
  long = refl;
  over = tt;
  not_tautology = tt;
  new = tt;
  apart = λ k d l. tt;
  all = ap (λ (xs : List Clause). Some xs) (sym (append-nil cs));
}
new_clauses variables cs (chain ∷ chains) over h =
    let own : IsOver variables h.0 = derived-over variables cs chain h.0 h.1 over in
    let rest : NewClauses variables (cs ++ clause h.0 ∷ []) chains =
    new_clauses variables (cs ++ clause h.0 ∷ []) chains
    (All-push (λ (c : Clause). IsOver variables c.lits) cs (clause h.0) over own) h.3 in
    let Apart : Clause → Type 0 = λ c. AllByRecursion (λ d. IsSubset c.lits d → ⊥) rest.lits in
    record {
      lits = h.0 ∷ rest.lits;
      long = ap suc rest.long;
      over = (own, rest.over);
      not_tautology = (h.2.not_tautology, rest.not_tautology);
      new = (
        All-contains Apart (cs ++ clause h.0 ∷ []) (clause h.0) rest.apart (Contains-push cs (clause h.0)),
        rest.new,
      );
      apart = λ k d l. (h.2.not_subsumed k d l, All-front Apart cs (clause h.0 ∷ []) rest.apart k d l);
      all = ap (option_and_then (λ lits. with_chains (cs ++ clause lits ∷ []) chains)) h.1 ∙ rest.all
          ∙ ap (λ (xs : List Clause). Some xs) (append_assoc cs (clause h.0 ∷ []) (map clause rest.lits));
    }

pub new_clauses_are_few : (variables : ℕ) (cs : List Clause) (chains : List Chain) →
    All (λ (c : Clause). IsOver variables c.lits) cs → AreNewClauses cs chains → length chains ≤ 3 ^ variables
new_clauses_are_few variables cs chains over h =
    let u = new_clauses variables cs chains over h in
    let few : length u.lits ≤ 3 ^ variables = few_clauses variables u.lits u.over u.not_tautology u.new in
    let long : length u.lits ≡ length chains = u.long in
    omega arith

-- ---- where none is empty, the empty clause would be one more

AreNotSubsumed-push : (cs : List (List Lit)) (d : List Lit) → AreNotSubsumed cs →
    AllByRecursion (λ c. IsSubset c d → ⊥) cs → AreNotSubsumed (cs ++ d ∷ [])
AreNotSubsumed-push [] d h k = (tt, tt)
AreNotSubsumed-push (c ∷ cs) d h k =
    (AllByRecursion-push (λ e. IsSubset c e → ⊥) cs d h.0 k.0, AreNotSubsumed-push cs d h.1 k.1)

none_empty : (cs : List (List Lit)) → (Contains (map clause cs) (clause []) → ⊥) →
    AllByRecursion (λ c. IsSubset c [] → ⊥) cs
none_empty [] h = tt
none_empty ([] ∷ cs) h = absurd (h (0, omega arith, refl))
none_empty ((l ∷ c) ∷ cs) h = (
  λ within. false≢true (within l (contains-head l c)),
  none_empty cs (λ there. h (suc there.0, omega (arith, there.1), there.2)),
)

pub fewer_new_clauses : (variables : ℕ) (cs : List Clause) (chains : List Chain) →
    All (λ (c : Clause). IsOver variables c.lits) cs → AreNewClauses cs chains → HasNoEmptyClause cs chains →
    length chains < 3 ^ variables
fewer_new_clauses variables cs chains over h none =
    let u = new_clauses variables cs chains over h in
    let all : cs ++ map clause u.lits ≡ none.0 = same_Some (cs ++ map clause u.lits) none.0 (sym u.all ∙ none.1) in
    let empty =
    none_empty u.lits
    (λ there.
    none.2
    (subst (λ xs. Contains xs (clause [])) all (Contains-append_right cs (map clause u.lits) (clause []) there))) in
    let few : length (u.lits ++ [] ∷ []) ≤ 3 ^ variables =
    few_clauses variables (u.lits ++ [] ∷ [])
    (AllByRecursion-push (IsOver variables) u.lits [] u.over (All-nil (λ (l : Lit). l.variable < variables)))
    (AllByRecursion-push IsNoTautology u.lits [] u.not_tautology (λ l e. absurd (false≢true e)))
    (AreNotSubsumed-push u.lits [] u.new empty) in
    let more : length (u.lits ++ [] ∷ []) ≡ length u.lits + 1 = length_push u.lits [] in
    let long : length u.lits ≡ length chains = u.long in
    omega arith
