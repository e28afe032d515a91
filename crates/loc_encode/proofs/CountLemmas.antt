-- How many of some slots are chosen.
use Rattle.std.proofs.Common.{◌≡◌, ◌≢◌, ℕ, zero, suc, ◌+◌, ◌-◌, ◌<◌, ◌≤◌, ⊎_elim, Bool, true, false, not}
use Rattle.std.proofs.Common.{◌&&◌, cond, List, length, take, get_or, slice_get, slice_set, Some, refl, sym}
use Rattle.std.proofs.Common.{ap}
use Rattle.std.proofs.Common.{◌∙◌, subst, arith, count_by, nat_eq}
use Rattle.std.proofs.lemmas.Bool.Decides.{nat_tests}
use Rattle.std.proofs.lemmas.Option.{same_Some, slice_get-get_or}
use Rattle.std.proofs.lemmas.List.Sums.{count_by_more_no, count_by_more_yes}
use Rattle.bv_terms.specs.declared.op.TermId.{TermId}
use Rattle.bv_terms.specs.Table.{Table, term_at, Extends}
use Rattle.bv_terms.proofs.GraftLemmas.{Extends-longer}
use Rattle.pattern_core.specs.Claim.{Claim}
use Rattle.list_lemmas.proofs.Lookups.{slice_get-set_same, slice_get-set_other}
use Rattle.list_lemmas.proofs.Bools.{true-or-false}
use Rattle.list_lemmas.proofs.Numbers.{equal-or-not}
use Rattle.std.proofs.Common.{replicate}
use Rattle.std.proofs.Math.ListN.{length-set}
use Rattle.loc_encode.specs.declared.slots.Slot.{Slot}
use Rattle.loc_encode.specs.Truths.{negation, conjunction, choice, Denotes}
use Rattle.loc_encode.specs.Tests.{Test, IsTest}
use Rattle.loc_encode.specs.Counts.{AreThere, AreCounts, one_more}
use Rattle.loc_encode.proofs.TestLemmas.{IsTest-kept, IsTest-not, IsTest-and, IsTest-ite, IsTest-same}

-- ---- seven nodes

pub AreThere-kept : (old new : Table) (counts : List TermId) → Extends old new → AreThere old counts
    → AreThere new counts
AreThere-kept old new counts more h = record {
  seven = h.seven;
  each = λ m at e. omega (arith, h.each m at e, Extends-longer old new more);
}

pub AreThere-set : (table : Table) (counts : List TermId) (k : ℕ) (id : TermId) → AreThere table counts → k < 7
    → id.0 < length table.nodes → AreThere table (slice_set counts k id)
AreThere-set table counts k id h l there = record {
  seven = length-set counts k id ∙ h.seven;
  each = λ m at e. ⊎_elim (λ same. let is : at ≡ id = same_Some at id (sym e
      ∙ ap (slice_get (slice_set counts k id)) same ∙ slice_get-set_same counts k id (omega (arith, h.seven, l))) in
      subst (λ (a : TermId). a.0 < length table.nodes) (sym is) there)
      (λ other. h.each m at (sym (slice_get-set_other counts k m id other) ∙ e)) (equal-or-not m k);
}

replicate-at : (id : TermId) (n m : ℕ) (at : TermId) → slice_get (replicate n id) m ≡ Some at → id ≡ at
replicate-at id zero m at e = cc
replicate-at id (suc n) zero at e = same_Some id at e
replicate-at id (suc n) (suc m) at e = replicate-at id n m at e

pub AreThere-same : (table : Table) (id : TermId) → id.0 < length table.nodes
    → AreThere table (replicate 7 id)
AreThere-same table id there = record {
  seven = refl;
  each = λ m at e. same-node m at e;
}
  where
    same-node : (m : ℕ) (at : TermId) → slice_get (replicate 7 id) m ≡ Some at → at.0 < length table.nodes
    same-node m at e = subst (λ (a : TermId). a.0 < length table.nodes) (replicate-at id 7 m at e) there

pub count-there : (old now : Table) (counts : List TermId) (k : ℕ) (d : TermId) → AreThere old counts → Extends old now
    → k < 7 → (get_or counts k d).0 < length now.nodes
count-there old now counts k d h more l =
    let there = h.each k (get_or counts k d) (slice_get-get_or counts k d (omega (arith, h.seven, l))) in
    omega (arith, there, Extends-longer old now more)

pub AreCounts-kept : (c : Claim) (old new : Table) (counts : List TermId) (most : ℕ) (n : (Slot → Bool) → ℕ)
    → Extends old new → AreCounts c old counts most n → AreCounts c new counts most n
AreCounts-kept c old new counts most n more h =
    record { each = λ m at within e. IsTest-kept c old new at (λ g. nat_eq (n g) m) more (h.each m at within e) }

-- ---- one slot more

-- the nodes so far that say how many are chosen with one slot more
abbrev pub AreCountsBelow : Table → Table → TermId → List TermId → ℕ → ℕ → List TermId → Type 0
AreCountsBelow old now slot counts most below more =
    (c : Claim) (x : Test) (n : (Slot → Bool) → ℕ) → IsTest c old slot x → AreCounts c old counts most n
    → (m : ℕ) (at : TermId) → m < below → slice_get more m ≡ Some at
    → IsTest c now at (λ g. nat_eq (one_more x n g) m)

none-chosen : (x : Bool) (n : ℕ) → (not x && nat_eq n 0) ≡ nat_eq (cond x (n + 1) n) 0
none-chosen true n = grind (arith, nat_tests)
none-chosen false n = refl

some-chosen : (x : Bool) (n m : ℕ) → cond x (nat_eq n m) (nat_eq n (suc m)) ≡ nat_eq (cond x (n + 1) n) (suc m)
some-chosen true n m = grind (arith, nat_tests)
some-chosen false n m = refl

pub counts-first : (old a b : Table) (slot other none : TermId) (counts : List TermId) (d : TermId) (most : ℕ)
    → AreThere old counts
    → Extends old a → Denotes a other (negation (term_at old slot)) → Extends a b
    → Denotes b none (conjunction (term_at a other) (term_at a (get_or counts 0 d)))
    → AreCountsBelow old b slot counts most 1 (slice_set counts 0 none)
counts-first old a b slot other none counts d most there more one again two c x n test are m at l e =
    let zero-is : m ≡ 0 = omega (arith, l) in
    let first = slice_get-get_or counts 0 d (omega (arith, there.seven)) in
    let is : at ≡ none = same_Some at none (sym e ∙ ap (slice_get (slice_set counts 0 none)) zero-is
    ∙ slice_get-set_same counts 0 none (omega (arith, there.seven))) in
    let first-test = IsTest-kept c old a (get_or counts 0 d) (λ g. nat_eq (n g) 0) more
    (are.each 0 (get_or counts 0 d) (omega arith) first) in
    let made = IsTest-and c a b none other (get_or counts 0 d) (λ g. not (x g)) (λ g. nat_eq (n g) 0)
    (IsTest-not c old a other slot x test more one) first-test again two in
    let told = IsTest-same c b none (λ g. not (x g) && nat_eq (n g) 0) (λ g. nat_eq (one_more x n g) 0)
    (λ g. none-chosen (x g) (n g)) made in
    subst (λ k. IsTest c b at (λ g. nat_eq (one_more x n g) k)) (sym zero-is)
    (subst (λ id. IsTest c b id (λ g. nat_eq (one_more x n g) 0)) (sym is) told)

pub counts-next : (old now new : Table) (slot id : TermId) (counts more : List TermId) (d : TermId) (most k : ℕ)
    → AreThere old counts → AreThere now more → Extends old now → Extends now new → 1 ≤ k → k ≤ most → most ≤ 6
    → Denotes new id (choice (term_at now slot) (term_at now (get_or counts (k - 1) d))
    (term_at now (get_or counts k d)))
    → AreCountsBelow old now slot counts most k more
    → AreCountsBelow old new slot counts most (k + 1) (slice_set more k id)
counts-next old now new slot id counts more d most zero there here first again some within six made so c x n test are
    m at l e =
    absurd (omega (arith, some))
counts-next old now new slot id counts more d most (suc k) there here first again some within six made so c x n test
    are m at l e =
    ⊎_elim (λ same.
    let is : at ≡ id = same_Some at id (sym e ∙ ap (slice_get (slice_set more (suc k) id)) same
    ∙ slice_get-set_same more (suc k) id (omega (arith, here.seven))) in
    let before : suc k - 1 ≡ k = omega arith in
    let low = slice_get-get_or counts k d (omega (arith, there.seven)) in
    let high = slice_get-get_or counts (suc k) d (omega (arith, there.seven)) in
    let low-test = IsTest-kept c old now (get_or counts k d) (λ g. nat_eq (n g) k) first
    (are.each k (get_or counts k d) (omega arith) low) in
    let high-test = IsTest-kept c old now (get_or counts (suc k) d) (λ g. nat_eq (n g) (suc k)) first
    (are.each (suc k) (get_or counts (suc k) d) (omega arith) high) in
    let term = subst (λ j. Denotes new id
    (choice (term_at now slot) (term_at now (get_or counts j d)) (term_at now (get_or counts (suc k) d)))) before made
    in
    let choice-test = IsTest-ite c now new id slot (get_or counts k d) (get_or counts (suc k) d) x
    (λ g. nat_eq (n g) k) (λ g. nat_eq (n g) (suc k)) (IsTest-kept c old now slot x first test) low-test high-test
    again term in
    let told = IsTest-same c new id (λ g. cond (x g) (nat_eq (n g) k) (nat_eq (n g) (suc k)))
    (λ g. nat_eq (one_more x n g) (suc k)) (λ g. some-chosen (x g) (n g) k) choice-test in
    subst (λ j. IsTest c new at (λ g. nat_eq (one_more x n g) j)) (sym same)
    (subst (λ a. IsTest c new a (λ g. nat_eq (one_more x n g) (suc k))) (sym is) told))
    (λ other. IsTest-kept c now new at (λ g. nat_eq (one_more x n g) m) again
    (so c x n test are m at (below m k l other) (sym (slice_get-set_other more (suc k) m id other) ∙ e)))
    (equal-or-not m (suc k))
  where
    below : (m k : ℕ) → m < suc k + 1 → m ≢ suc k → m < suc k
    below m k l other = omega (arith, l, other)

pub counts-all : (old now : Table) (slot : TermId) (counts more : List TermId) (most : ℕ)
    → AreCountsBelow old now slot counts most (most + 1) more
    → (c : Claim) (x : Test) (n : (Slot → Bool) → ℕ) → IsTest c old slot x → AreCounts c old counts most n
    → AreCounts c now more most (one_more x n)
counts-all old now slot counts more most so c x n test are =
    record { each = λ m at l e. so c x n test are m at (omega (arith, l)) e }

-- ---- no slots, and one more

pub counts-none : (c : Claim) (b : Table) (never always : TermId) (most : ℕ) → IsTest c b never (λ g. false)
    → IsTest c b always (λ g. true) → AreCounts c b (slice_set (replicate 7 never) 0 always) most (λ g. 0)
counts-none c b never always most is-never is-always = record { each = λ m at l e. by m at e }
  where
    by : (m : ℕ) (at : TermId) → slice_get (slice_set (replicate 7 never) 0 always) m ≡ Some at
        → IsTest c b at (λ g. nat_eq 0 m)
    by zero at e = subst (λ id. IsTest c b id (λ g. true)) (same_Some always at e) is-always
    by (suc m) at e =
        let none : false ≡ nat_eq 0 (suc m) = grind (arith, nat_tests) in
        subst (λ id. IsTest c b id (λ g. nat_eq 0 (suc m))) (replicate-at never 7 (suc m) at e)
        (subst (λ t. IsTest c b never (λ g. t)) none is-never)

count-more : (g : Slot → Bool) (xs : List Slot) (i : ℕ) (d : Slot) → i < length xs
    → cond (g (get_or xs i d)) (count_by g (take i xs) + 1) (count_by g (take i xs)) ≡ count_by g (take (i + 1) xs)
count-more g xs i d l = ⊎_elim
    (λ is. ap (λ b. cond b (count_by g (take i xs) + 1) (count_by g (take i xs))) is
    ∙ sym (count_by_more_yes g xs i d l is))
    (λ is. ap (λ b. cond b (count_by g (take i xs) + 1) (count_by g (take i xs))) is
    ∙ sym (count_by_more_no g xs i d l is))
    (true-or-false (g (get_or xs i d)))

pub counts-more : (c : Claim) (table : Table) (counts : List TermId) (most : ℕ) (xs : List Slot) (i : ℕ) (d : Slot)
    → i < length xs
    → AreCounts c table counts most (one_more (λ g. g (get_or xs i d)) (λ g. count_by g (take i xs)))
    → AreCounts c table counts most (λ g. count_by g (take (i + 1) xs))
counts-more c table counts most xs i d l are = record {
  each = λ m at within e.
      IsTest-same c table at
      (λ g. nat_eq (one_more (λ g. g (get_or xs i d)) (λ g. count_by g (take i xs)) g) m)
      (λ g. nat_eq (count_by g (take (i + 1) xs)) m)
      (λ g. ap (λ n. nat_eq n m) (count-more g xs i d l)) (are.each m at within e);
}
