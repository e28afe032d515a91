-- Logs, chain by chain.
use Rattle.std.proofs.Common.{◌≡◌, ℕ, zero, suc, ◌<◌, ◌≤◌, ◌+◌, List, [], ◌∷◌, ◌++◌, refl, sym, ap, ◌∙◌, subst, arith}
use Rattle.std.proofs.Common.{length, get_or, take, Some, None, slice_get, Contains, option_and_then, append-nil}
use Rattle.std.proofs.Common.{append_assoc, ◌⊎◌, inl, inr}
use Rattle.std.proofs.lemmas.Bool.{cases_order}
use Rattle.std.proofs.lemmas.List.{take_more, take_all}
use Rattle.std.proofs.lemmas.List.Elements.{All-push}
use Rattle.std.proofs.lemmas.Option.{none-some, same_Some, option_and_then_some, slice_get-get_or, slice_get_within}
use Rattle.cnf_core.specs.declared.clause.Lit.{Lit}
use Rattle.cnf_core.specs.declared.clause.Clause.{Clause}
use Rattle.cnf_core.specs.declared.log.Chain.{Chain}
use Rattle.cnf_core.specs.Clause.{contains, AreSame, IsOver}
use Rattle.cnf_core.specs.Resolution.{derived, clause, with_chains, IsAccepted, HasNoEmptyClause, IsFirstBad}
use Rattle.cnf_core.proofs.Sets.{AreSame-trans, no_literal}
use Rattle.cnf_core.proofs.Same.{AllSame, AllSame-itself, AllSame-more, AllSame-length, AllSame-sym, AllSame-get}
use Rattle.cnf_core.proofs.Same.{derived-same, same-Some, same-None}
use Rattle.cnf_core.proofs.Chains.{with_chains-more}
use Rattle.proof_check.specs.declared.check.Verdict.{Verdict}
use Rattle.proof_check.specs.declared.check.Verdict.TheVariants.{Refuted, BadStep, NotEmpty}
use Rattle.proof_check.specs.LitSet.{Literals}
use Rattle.proof_check.specs.Check.{AreOver, IsVerdict}

-- the chains so far resolve, and their clauses are kept as sets
pub record Derives (variables : ℕ) (clauses : List Clause) (chains : List Chain) (so_far : Literals)
    (earlier : List Clause) : Type 0 where
  pub variables_kept : so_far.variables ≡ variables
  pub empty : so_far.lits ≡ []
  pub over : AreOver variables (clauses ++ earlier)
  pub all : List Clause
  pub resolve : with_chains clauses chains ≡ Some all
  pub same : AllSame all (clauses ++ earlier)

-- no chain yet
pub Derives-none : (variables : ℕ) (clauses : List Clause) (so_far : Literals) (earlier : List Clause) →
    so_far ≡ record { variables = variables; lits = [] } → earlier ≡ [] → AreOver variables clauses →
    Derives variables clauses [] so_far earlier
Derives-none variables clauses so_far earlier is none over =
    let whole : clauses ≡ clauses ++ earlier = sym (append-nil clauses) ∙ ap (λ es. clauses ++ es) (sym none) in
    record {
      variables_kept = ap (λ (s : Literals). s.variables) is;
      empty = ap (λ (s : Literals). s.lits) is;
      over = subst (AreOver variables) whole over;
      all = clauses;
      resolve = refl;
      same = subst (AllSame clauses) whole (AllSame-itself clauses);
    }

-- one more chain
pub Derives-more : (variables : ℕ) (clauses : List Clause) (chains : List Chain) (i : ℕ) (chain : Chain)
    (old new : Literals) (earlier more : List Clause) (found : Clause) →
    i < length chains → chain ≡ get_or chains i chain → Derives variables clauses (take i chains) old earlier →
    new.variables ≡ old.variables → new.lits ≡ [] → IsOver old.variables found.lits →
    ((c : List Lit) × (derived (clauses ++ earlier) chain ≡ Some c) × AreSame c found.lits) →
    more ≡ earlier ++ found ∷ [] →
    Derives variables clauses (take (i + 1) chains) new more
Derives-more variables clauses chains i chain old new earlier more found within is before kept empty over gave pushed =
    let cs = clauses ++ earlier in
    let mine =
    same-Some (derived before.all chain) (derived cs chain) gave.0 (derived-same before.all cs chain before.same)
    gave.1 in
    let whole : cs ++ found ∷ [] ≡ clauses ++ more = append_assoc clauses earlier (found ∷ [])
    ∙ ap (λ es. clauses ++ es) (sym pushed) in
    let longer : take (i + 1) chains ≡ take i chains ++ chain ∷ [] =
    take_more chains i chain within ∙ ap (λ x. take i chains ++ x ∷ []) (sym is) in
    record {
      variables_kept = kept ∙ before.variables_kept;
      empty = empty;
      over = subst (AreOver variables) whole
          (All-push (λ (c : Clause). IsOver variables c.lits) cs found before.over
          (subst (λ n. IsOver n found.lits) before.variables_kept over));
      all = before.all ++ clause mine.0 ∷ [];
      resolve =
          ap (with_chains clauses) longer
          ∙ with_chains-more clauses (take i chains) chain before.all mine.0 before.resolve mine.1;
      same = subst (AllSame (before.all ++ clause mine.0 ∷ [])) whole
          (AllSame-more before.all cs (clause mine.0) found before.same
          (AreSame-trans mine.0 gave.0 found.lits mine.2 gave.2));
    }

-- a chain that does not resolve, after chains that do
pub Derives-bad : (variables : ℕ) (clauses : List Clause) (chains : List Chain) (i : ℕ) (chain : Chain)
    (so_far : Literals) (earlier : List Clause) →
    i < length chains → chain ≡ get_or chains i chain → Derives variables clauses (take i chains) so_far earlier →
    derived (clauses ++ earlier) chain ≡ None →
    IsFirstBad clauses chains i
Derives-bad variables clauses chains i chain so_far earlier within is before bad =
    record {
      before = before.all;
      resolve = before.resolve;
      chain = chain;
      stands = slice_get-get_or chains i chain within ∙ ap Some (sym is);
      bad =
          same-None (derived before.all chain) (derived (clauses ++ earlier) chain)
          (derived-same before.all (clauses ++ earlier) chain before.same) bad;
    }

-- a list of the same sets has an empty clause too
empty-same : (cs ds : List Clause) → AllSame cs ds → Contains cs (clause []) → Contains ds (clause [])
empty-same cs ds same at =
    let lits : (get_or ds at.0 (clause [])).lits ≡ [] = no_literal (get_or ds at.0 (clause [])).lits
    (λ l. sym (AllSame-get cs ds at.0 (clause []) same l) ∙ ap (λ (c : Clause). contains c.lits l) at.2) in
    (at.0, subst (λ n. at.0 < n) (AllSame-length cs ds same) at.1, ap clause lits)

-- all chains resolve
abbrev all-resolve : (variables : ℕ) (clauses : List Clause) (chains : List Chain) (i : ℕ) (so_far : Literals)
    (earlier : List Clause) →
    length chains ≤ i → (d : Derives variables clauses (take i chains) so_far earlier) →
    with_chains clauses chains ≡ Some d.all
all-resolve variables clauses chains i so_far earlier past d = ap (with_chains clauses) (sym (take_all i chains past))
    ∙ d.resolve

pub Derives-accepted : (variables : ℕ) (clauses : List Clause) (chains : List Chain) (i : ℕ) (so_far : Literals)
    (earlier : List Clause) →
    length chains ≤ i → Derives variables clauses (take i chains) so_far earlier →
    Contains (clauses ++ earlier) (clause []) → IsAccepted clauses chains
Derives-accepted variables clauses chains i so_far earlier past d at = (
  d.all,
  all-resolve variables clauses chains i so_far earlier past d,
  empty-same (clauses ++ earlier) d.all (AllSame-sym d.all (clauses ++ earlier) d.same) at,
)

pub Derives-not_empty : (variables : ℕ) (clauses : List Clause) (chains : List Chain) (i : ℕ) (so_far : Literals)
    (earlier : List Clause) →
    length chains ≤ i → Derives variables clauses (take i chains) so_far earlier →
    ¬ (Contains (clauses ++ earlier) (clause [])) → HasNoEmptyClause clauses chains
Derives-not_empty variables clauses chains i so_far earlier past d none = (
  d.all,
  all-resolve variables clauses chains i so_far earlier past d,
  λ at. none (empty-same d.all (clauses ++ earlier) d.same at),
)

-- ---- one verdict at most

-- a bad chain leaves no clauses
bad-before : (chains : List Chain) (cs : List Clause) (k n : ℕ) (before all : List Clause) (chain : Chain) →
    with_chains cs (take k chains) ≡ Some before → slice_get chains k ≡ Some chain → derived before chain ≡ None →
    k < n →
    with_chains cs (take n chains) ≡ Some all → ⊥
bad-before [] cs k n before all chain resolve stands bad less end = none-some chain stands
bad-before (x ∷ xs) cs k zero before all chain resolve stands bad less end = omega arith
bad-before (x ∷ xs) cs zero (suc n) before all chain resolve stands bad less end =
    let here : derived cs x ≡ None = ap (λ c. derived c x) (same_Some cs before resolve)
    ∙ ap (derived before) (same_Some x chain stands) ∙ bad in
    none-some all (sym (ap (option_and_then (λ lits. with_chains (cs ++ clause lits ∷ []) (take n xs))) here) ∙ end)
bad-before (x ∷ xs) cs (suc k) (suc n) before all chain resolve stands bad less end =
    option_and_then_some (λ lits. with_chains (cs ++ clause lits ∷ []) (take k xs)) (derived cs x) before resolve
    (λ lits first rest.
    bad-before xs (cs ++ clause lits ∷ []) k n before all chain rest stands bad (omega arith)
    (sym (ap (option_and_then (λ ls. with_chains (cs ++ clause ls ∷ []) (take n xs))) first) ∙ end))

bad-never : (cs : List Clause) (chains : List Chain) (k : ℕ) (all : List Clause) → IsFirstBad cs chains k →
    with_chains cs chains ≡ Some all → ⊥
bad-never cs chains k all b end =
    bad-before chains cs k (length chains) b.before all b.chain b.resolve b.stands b.bad
    (slice_get_within chains k b.chain b.stands)
    (ap (with_chains cs) (take_all (length chains) chains (omega arith)) ∙ end)

bad-once : (cs : List Clause) (chains : List Chain) (j k : ℕ) → IsFirstBad cs chains j → IsFirstBad cs chains k → k ≡ j
bad-once cs chains j k a b = by (cases_order k j)
  where
    by : (k ≡ j) ⊎ ((k < j) ⊎ (j < k)) → k ≡ j
    by (inl e) = e
    by (inr (inl less)) =
        absurd (bad-before chains cs k j b.before a.before b.chain b.resolve b.stands b.bad less a.resolve)
    by (inr (inr more)) =
        absurd (bad-before chains cs j k a.before b.before a.chain a.resolve a.stands a.bad more b.resolve)

pub only-verdict : (cs : List Clause) (chains : List Chain) (v w : Verdict) → IsVerdict cs chains v →
    IsVerdict cs chains w → w ≡ v
only-verdict cs chains Refuted Refuted a b = refl
only-verdict cs chains Refuted (BadStep k) a b = absurd (bad-never cs chains k a.0 b a.1)
only-verdict cs chains Refuted NotEmpty a b =
    absurd (b.2 (subst (λ all. Contains all (clause [])) (same_Some a.0 b.0 (sym a.1 ∙ b.1)) a.2))
only-verdict cs chains (BadStep j) Refuted a b = absurd (bad-never cs chains j b.0 a b.1)
only-verdict cs chains (BadStep j) (BadStep k) a b = ap BadStep (bad-once cs chains j k a b)
only-verdict cs chains (BadStep j) NotEmpty a b = absurd (bad-never cs chains j b.0 a b.1)
only-verdict cs chains NotEmpty Refuted a b =
    absurd (a.2 (subst (λ all. Contains all (clause [])) (same_Some b.0 a.0 (sym b.1 ∙ a.1)) b.2))
only-verdict cs chains NotEmpty (BadStep k) a b = absurd (bad-never cs chains k a.0 b a.1)
only-verdict cs chains NotEmpty NotEmpty a b = refl

pub verdict-of : (cs cs' : List Clause) (chains chains' : List Chain) (v : Verdict) → cs ≡ cs' → chains ≡ chains' →
    IsVerdict cs chains v → IsVerdict cs' chains' v
verdict-of cs cs' chains chains' v e f h = subst (λ xs. IsVerdict cs' xs v) f (subst (λ ys. IsVerdict ys chains v) e h)
