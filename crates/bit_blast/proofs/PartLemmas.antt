-- How the parts of a formula are found: the greatest of those that are pending is taken, and its two parts are put in.
use Rattle.std.proofs.Common.{◌≡◌, ◌∙◌, ℕ, ◌+◌, ◌*◌, ◌<◌, ◌&&◌, ◌||◌, ◌⊎◌, Bool, true, false, ⊎_elim, inl, inr, List}
use Rattle.std.proofs.Common.{[], ◌∷◌, ◌++◌}
use Rattle.std.proofs.Common.{All, Contains, refl, sym, ap, subst, arith}
use Rattle.std.specs.BTreeSet.{insert_key}
use Rattle.std.specs.Ordering.{nat_cmp, bool_cmp, ordering_then, match_ordering}
use Rattle.std.specs.declared.cmp.Ordering.{Ordering}
use Rattle.std.specs.declared.cmp.Ordering.TheVariants.{Less, Equal, Greater}
use Rattle.std.proofs.lemmas.List.Elements.{All-nil, All-cons, All-weaker, All-contains, All-append}
use Rattle.std.proofs.lemmas.List.Elements.{All-contains_itself, Contains-append_left, Contains-append_right}
use Rattle.std.proofs.lemmas.List.Elements.{Contains-append_cases, Contains-push_cases, Contains-push, All-push}
use Rattle.std.proofs.lemmas.Map.Views.{All-insert_key}
use Rattle.bv_terms.specs.Subterm.{IsSubterm}
use Rattle.bv_terms.specs.Table.{Table, term_at}
use Rattle.bv_terms.proofs.SubtermLemmas.{IsSubterm-itself, IsSubterm-through, InputsFit-subterm}
use Rattle.word_circuits.specs.Word.{bit}
use Rattle.bit_blast.specs.declared.parts.Part.{Part}
use Rattle.bit_blast.specs.declared.parts.Join.{Join}
use Rattle.bit_blast.specs.declared.parts.Join.TheVariants as join
use Rattle.bit_blast.specs.Bits.{IsBitOf}
use Rattle.bit_blast.specs.Parts.{part_true, joined, both, IsFormulaNode, AreParts, AreMembers}
use Rattle.bit_blast.proofs.SetLemmas.{Contains-insert_key, Contains-inserted}
use Rattle.list_lemmas.proofs.Lookups.{Contains-first}
use Rattle.list_lemmas.proofs.Orders.{nat_cmp-is_less, nat_cmp-is_equal, then_first, then_second}

-- ---- the order of parts

abbrev pub part_cmp : Part → Part → Ordering
part_cmp a b = ordering_then (nat_cmp a.at.0 b.at.0) (bool_cmp a.holds b.holds)

abbrev pub rank : Part → ℕ
rank p = 2 * p.at.0 + bit p.holds

same_holds : (a b : Bool) → bool_cmp a b ≡ Equal → a ≡ b
same_holds false false e = refl
same_holds false true e = cc
same_holds true false e = cc
same_holds true true e = refl

pub part_cmp-exact : (a b : Part) → part_cmp a b ≡ Equal → a ≡ b
part_cmp-exact a b e =
    let at = nat_cmp-is_equal a.at.0 b.at.0 (then_first (nat_cmp a.at.0 b.at.0) (bool_cmp a.holds b.holds) e) in
    let holds = same_holds a.holds b.holds (then_second (nat_cmp a.at.0 b.at.0) (bool_cmp a.holds b.holds) e) in
    let made : ℕ → Bool → Part = λ n h. record { at = record { 0 = n }; holds = h } in
    ap (λ n. made n a.holds) at ∙ ap (made b.at.0) holds

less_holds : (a b : Bool) → bool_cmp a b ≡ Less → bit a < bit b
less_holds false false e = absurd (cc)
less_holds false true e = omega arith
less_holds true false e = absurd (cc)
less_holds true true e = absurd (cc)

bit-small : (b : Bool) → bit b < 2
bit-small false = omega arith
bit-small true = omega arith

pub part_cmp-less : (a b : Part) → part_cmp a b ≡ Less → rank a < rank b
part_cmp-less a b e = by (nat_cmp a.at.0 b.at.0) refl e
  where
    by : (o : Ordering) → nat_cmp a.at.0 b.at.0 ≡ o → ordering_then o (bool_cmp a.holds b.holds) ≡ Less
        → rank a < rank b
    by Less n h = omega (arith, nat_cmp-is_less a.at.0 b.at.0 n, bit-small a.holds)
    by Equal n h = omega (arith, nat_cmp-is_equal a.at.0 b.at.0 n, less_holds a.holds b.holds h)
    by Greater n h = absurd (cc)

pub smaller-rank : (a b : Part) → a.at.0 < b.at.0 → rank a < rank b
smaller-rank a b less = omega (arith, less, bit-small a.holds)

-- ---- joined values

both-again : (j : Join) (p q : Bool) → both j p q ≡ both j p (both j p q)
both-again join.All false q = refl
both-again join.All true q = refl
both-again join.Any false q = refl
both-again join.Any true q = refl

both-turned : (j : Join) (p q r : Bool) → both j p (both j q r) ≡ both j q (both j p r)
both-turned join.All false false r = refl
both-turned join.All false true r = refl
both-turned join.All true false r = refl
both-turned join.All true true r = refl
both-turned join.Any false false r = refl
both-turned join.Any false true r = refl
both-turned join.Any true false r = refl
both-turned join.Any true true r = refl

both-grouped : (j : Join) (p q r : Bool) → both j (both j p q) r ≡ both j p (both j q r)
both-grouped join.All false q r = refl
both-grouped join.All true q r = refl
both-grouped join.Any false q r = refl
both-grouped join.Any true q r = refl

joined-cons : (j : Join) (test : Part → Bool) (p : Part) (ps : List Part)
    → joined j test (p ∷ ps) ≡ both j (test p) (joined j test ps)
joined-cons join.All test p ps = refl
joined-cons join.Any test p ps = refl

joined-insert : (j : Join) (test : Part → Bool) (ks : List Part) (k : Part)
    → joined j test (insert_key part_cmp ks k) ≡ both j (test k) (joined j test ks)
joined-insert j test [] k = joined-cons j test k []
joined-insert j test (x ∷ xs) k = by (joined-insert j test xs k) (part_cmp k x) refl
  where
    by : joined j test (insert_key part_cmp xs k) ≡ both j (test k) (joined j test xs)
        → (o : Ordering) → part_cmp k x ≡ o
        → joined j test (match_ordering o (k ∷ x ∷ xs) (x ∷ xs) (x ∷ insert_key part_cmp xs k))
        ≡ both j (test k) (joined j test (x ∷ xs))
    by rest Less e = joined-cons j test k (x ∷ xs)
    by rest Equal e =
        let same = ap test (part_cmp-exact k x e) in
        joined-cons j test x xs ∙ both-again j (test x) (joined j test xs)
        ∙ ap (both j (test x)) (sym (joined-cons j test x xs))
        ∙ ap (λ b. both j b (joined j test (x ∷ xs))) (sym same)
    by rest Greater e =
        joined-cons j test x (insert_key part_cmp xs k) ∙ ap (both j (test x)) rest
        ∙ both-turned j (test x) (test k) (joined j test xs)
        ∙ ap (both j (test k)) (sym (joined-cons j test x xs))

joined-append : (j : Join) (test : Part → Bool) (xs ys : List Part)
    → joined j test (xs ++ ys) ≡ both j (joined j test xs) (joined j test ys)
joined-append join.All test [] ys = refl
joined-append join.Any test [] ys = refl
joined-append j test (x ∷ xs) ys =
    joined-cons j test x (xs ++ ys) ∙ ap (both j (test x)) (joined-append j test xs ys)
    ∙ sym (both-grouped j (test x) (joined j test xs) (joined j test ys))
    ∙ ap (λ b. both j b (joined j test ys)) (sym (joined-cons j test x xs))

alone : (j : Join) (test : Part → Bool) (p : Part) → joined j test (p ∷ []) ≡ test p
alone join.All test p = by (test p)
  where
    by : (b : Bool) → (b && true) ≡ b
    by false = refl
    by true = refl
alone join.Any test p = by (test p)
  where
    by : (b : Bool) → (b || false) ≡ b
    by false = refl
    by true = refl

-- the taken one stands between the others that are pending and those that were found
joined-split : (j : Join) (test : Part → Bool) (ks found : List Part) (p : Part)
    → joined j test ((ks ++ p ∷ []) ++ found)
    ≡ both j (test p) (both j (joined j test ks) (joined j test found))
joined-split j test ks found p =
    joined-append j test (ks ++ p ∷ []) found
    ∙ ap (λ b. both j b (joined j test found)) (joined-append j test ks (p ∷ [])
    ∙ ap (both j (joined j test ks)) (alone j test p))
    ∙ both-grouped j (joined j test ks) (test p) (joined j test found)
    ∙ both-turned j (joined j test ks) (test p) (joined j test found)

-- ---- the search

pub AreParts-first : (table : Table) (j : Join) (part : Part) → IsFormulaNode table part.at
    → AreParts table j part ((part ∷ []) ++ [])
AreParts-first table j part formula = record {
  formulas = All-cons (λ (p : Part). IsFormulaNode table p.at) part [] formula
      (All-nil (λ (p : Part). IsFormulaNode table p.at));
  below = All-cons (λ (p : Part). IsSubterm (term_at table p.at) (term_at table part.at)) part []
      (IsSubterm-itself (term_at table part.at))
      (All-nil (λ (p : Part). IsSubterm (term_at table p.at) (term_at table part.at)));
  value = λ env fit. sym (alone j (part_true table env) part);
  bits = λ number k at. (part, Contains-first part [], at);
}

there : (pending ks found : List Part) (p : Part) → pending ≡ ks ++ p ∷ [] → Contains (pending ++ found) p
there pending ks found p split =
    Contains-append_left pending found p (subst (λ ps. Contains ps p) (sym split) (Contains-push ks p))

pub AreParts-formula : (table : Table) (j : Join) (whole : Part) (pending ks found : List Part) (p : Part)
    → AreParts table j whole (pending ++ found) → pending ≡ ks ++ p ∷ [] → IsFormulaNode table p.at
AreParts-formula table j whole pending ks found p are split =
    All-contains (λ (p : Part). IsFormulaNode table p.at) (pending ++ found) p are.formulas
    (there pending ks found p split)

-- the others stay
others : (P : Part → Type 0) (pending ks found : List Part) (p : Part) → pending ≡ ks ++ p ∷ []
    → All P (pending ++ found) → All P ks × All P found × P p
others P pending ks found p split all = (
  All-weaker (Contains ks) P (λ q c. All-contains P (pending ++ found) q all (Contains-append_left pending found q
      (subst (λ ps. Contains ps q) (sym split) (Contains-append_left ks (p ∷ []) q c)))) ks (All-contains_itself ks),
  All-weaker (Contains found) P (λ q c. All-contains P (pending ++ found) q all
      (Contains-append_right pending found q c))
      found (All-contains_itself found),
  All-contains P (pending ++ found) p all (there pending ks found p split),
)

-- a part of the old list is the taken one, or another
taken-or : (pending ks found : List Part) (p q : Part) → pending ≡ ks ++ p ∷ [] → Contains (pending ++ found) q
    → (p ≡ q) ⊎ (Contains ks q ⊎ Contains found q)
taken-or pending ks found p q split c = ⊎_elim
    (λ first. ⊎_elim (λ early. inr (inl early)) (λ same. inl same)
    (Contains-push_cases ks p q (subst (λ ps. Contains ps q) split first)))
    (λ later. inr (inr later)) (Contains-append_cases pending found q c)

-- the greatest is joined of two
pub AreParts-step : (table : Table) (j : Join) (whole : Part) (pending ks found : List Part) (p a b : Part)
    → AreParts table j whole (pending ++ found) → pending ≡ ks ++ p ∷ [] → AreMembers table j p a b
    → AreParts table j whole (insert_key part_cmp (insert_key part_cmp ks a) b ++ found)
AreParts-step table j whole pending ks found p a b are split members =
    let first = insert_key part_cmp ks a in
    let new = insert_key part_cmp first b in
    let Formula : Part → Type 0 = λ p. IsFormulaNode table p.at in
    let Below : Part → Type 0 = λ p. IsSubterm (term_at table p.at) (term_at table whole.at) in
    let formulas = others Formula pending ks found p split are.formulas in
    let below = others Below pending ks found p split are.below in
    let through : (q : Part) → IsSubterm (term_at table q.at) (term_at table p.at) → Below q =
    λ q under. IsSubterm-through (term_at table q.at) (term_at table p.at) (term_at table whole.at) under below.2 in
    let early : (q : Part) → Contains ks q → Contains (new ++ found) q = λ q c. Contains-append_left new found q
    (Contains-insert_key part_cmp part_cmp-exact first b q (Contains-insert_key part_cmp part_cmp-exact ks a q c)) in
    record {
      formulas = All-append Formula new found
          (All-insert_key part_cmp b Formula first
          (All-insert_key part_cmp a Formula ks formulas.0 members.left_formula) members.right_formula) formulas.1;
      below = All-append Below new found
          (All-insert_key part_cmp b Below first
          (All-insert_key part_cmp a Below ks below.0 (through a members.left_below)) (through b members.right_below))
          below.1;
      value = λ env fit.
          let test = part_true table env in
          are.value env fit ∙ ap (λ ps. joined j test (ps ++ found)) split
          ∙ joined-split j test ks found p
          ∙ ap (λ x. both j x (both j (joined j test ks) (joined j test found)))
          (members.value env (InputsFit-subterm env (term_at table whole.at) fit (term_at table p.at) below.2))
          ∙ regrouped j (test a) (test b) (joined j test ks) (joined j test found)
          ∙ sym (joined-append j test new found
          ∙ ap (λ x. both j x (joined j test found))
          (joined-insert j test first b ∙ ap (both j (test b)) (joined-insert j test ks a)));
      bits = λ number k at.
          let old = are.bits number k at in
          ⊎_elim
          (λ same. ⊎_elim
          (λ left. (
            a,
            Contains-append_left new found a (Contains-insert_key part_cmp part_cmp-exact first b a
                (Contains-inserted part_cmp part_cmp-exact ks a)),
            left,
          ))
          (λ right. (b, Contains-append_left new found b (Contains-inserted part_cmp part_cmp-exact first b), right))
          (members.bits number k (subst (λ (q : Part). IsBitOf (term_at table q.at) number k) (sym same) old.2)))
          (λ other. ⊎_elim (λ c. (old.0, early old.0 c, old.2))
          (λ c. (old.0, Contains-append_right new found old.0 c, old.2)) other)
          (taken-or pending ks found p old.0 split old.1);
    }
  where
    regrouped : (j : Join) (a b k f : Bool) → both j (both j a b) (both j k f) ≡ both j (both j b (both j a k)) f
    regrouped j a b k f =
        both-grouped j a b (both j k f) ∙ both-turned j a b (both j k f)
        ∙ sym (both-grouped j b (both j a k) f ∙ ap (both j b) (both-grouped j a k f))

-- the greatest is none that is joined so
pub AreParts-found : (table : Table) (j : Join) (whole : Part) (pending ks found : List Part) (p : Part)
    → AreParts table j whole (pending ++ found) → pending ≡ ks ++ p ∷ []
    → AreParts table j whole (ks ++ (found ++ p ∷ []))
AreParts-found table j whole pending ks found p are split =
    let Formula : Part → Type 0 = λ p. IsFormulaNode table p.at in
    let Below : Part → Type 0 = λ p. IsSubterm (term_at table p.at) (term_at table whole.at) in
    let formulas = others Formula pending ks found p split are.formulas in
    let below = others Below pending ks found p split are.below in
    let more = found ++ p ∷ [] in
    record {
      formulas = All-append Formula ks more formulas.0 (All-push Formula found p formulas.1 formulas.2);
      below = All-append Below ks more below.0 (All-push Below found p below.1 below.2);
      value = λ env fit.
          let test = part_true table env in
          are.value env fit ∙ ap (λ ps. joined j test (ps ++ found)) split
          ∙ joined-split j test ks found p
          ∙ regrouped j (test p) (joined j test ks) (joined j test found)
          ∙ sym (joined-append j test ks more
          ∙ ap (both j (joined j test ks)) (joined-append j test found (p ∷ [])
          ∙ ap (both j (joined j test found)) (alone j test p)));
      bits = λ number k at.
          let old = are.bits number k at in
          ⊎_elim
          (λ same. (
            p,
            Contains-append_right ks more p (Contains-push found p),
            subst (λ (q : Part). IsBitOf (term_at table q.at) number k) (sym same) old.2,
          ))
          (λ other. ⊎_elim (λ c. (old.0, Contains-append_left ks more old.0 c, old.2))
          (λ c. (
            old.0,
            Contains-append_right ks more old.0 (Contains-append_left found
                (p ∷ []) old.0 c),
            old.2,
          )) other)
          (taken-or pending ks found p old.0 split old.1);
    }
  where
    regrouped : (j : Join) (p k f : Bool) → both j p (both j k f) ≡ both j k (both j f p)
    regrouped join.All false false f = refl
    regrouped join.All false true false = refl
    regrouped join.All false true true = refl
    regrouped join.All true false f = refl
    regrouped join.All true true false = refl
    regrouped join.All true true true = refl
    regrouped join.Any false false false = refl
    regrouped join.Any false false true = refl
    regrouped join.Any false true f = refl
    regrouped join.Any true false false = refl
    regrouped join.Any true false true = refl
    regrouped join.Any true true f = refl

pub AreParts-end : (table : Table) (j : Join) (whole : Part) (pending found : List Part)
    → AreParts table j whole (pending ++ found) → pending ≡ [] → AreParts table j whole found
AreParts-end table j whole pending found are none = subst (λ ps. AreParts table j whole (ps ++ found)) none are

-- what is pending after the greatest part was taken is below it
pub found-below : (ks : List Part) (p : Part) → All (λ (q : Part). part_cmp q p ≡ Less) ks
    → All (λ (q : Part). rank q < rank p) ks
found-below ks p below =
    All-weaker (λ (q : Part). part_cmp q p ≡ Less) (λ (q : Part). rank q < rank p) (λ q less. part_cmp-less q p less)
    ks below

pub step-below : (ks : List Part) (p a b : Part) → All (λ (q : Part). part_cmp q p ≡ Less) ks
    → a.at.0 < p.at.0 → b.at.0 < p.at.0
    → All (λ (q : Part). rank q < rank p) (insert_key part_cmp (insert_key part_cmp ks a) b)
step-below ks p a b below first second =
    let Below : Part → Type 0 = λ q. rank q < rank p in
    All-insert_key part_cmp b Below (insert_key part_cmp ks a)
    (All-insert_key part_cmp a Below ks (found-below ks p below) (smaller-rank a p first)) (smaller-rank b p second)
