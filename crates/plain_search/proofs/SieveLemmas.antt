-- What the sieve keeps of a multiset's patterns are its rules, and the rules of all multisets of a size are those of
-- the size.
use Rattle.std.proofs.Common.{◌≡◌, ℕ, ◌<◌, ◌≤◌, ◌↔◌, Bool, true, false, cond, List, [], ◌∷◌, ◌++◌, length, Contains}
use Rattle.std.proofs.Common.{Some, slice_get, get_or, refl, sym, ap, ◌∙◌, subst, inl, inr, arith}
use Rattle.std.specs.Prelude.{nat_le, ◌⊎◌}
use Rattle.std.specs.Cmp.Lexicographic.{slice_cmp}
use Rattle.std.specs.Ordering.{nat_cmp, ordering_then}
use Rattle.std.specs.declared.cmp.Ordering.{Ordering}
use Rattle.std.specs.declared.cmp.Ordering.TheVariants.{Less}
use Rattle.std.proofs.lemmas.Bool.{cases_lt}
use Rattle.std.proofs.lemmas.Option.{slice_get_within}
use Rattle.isel_spec.specs.declared.spec.Spec.{Spec}
use Rattle.isel_spec.specs.File.{File, Goal}
use Rattle.isel_spec.specs.Spec.{file}
use Rattle.list_lemmas.proofs.Bools.{and-both, le_true}
use Rattle.list_lemmas.proofs.Lists.{append-move, append-nothing}
use Rattle.list_lemmas.proofs.Lookups.{Contains-slice_get}
use Rattle.list_lemmas.proofs.Members.{In, In-from_Contains, Contains-from_In, In-append_left, In-append_right}
use Rattle.list_lemmas.proofs.Members.{In-append_cases, In-get_or}
use Rattle.list_lemmas.proofs.Orders.{IsOrdered, Before, nat_cmp-same}
use Rattle.multiset_rank.specs.Multisets.{AreBelow, AreMultisets, never_falls}
use Rattle.pattern_core.specs.declared.pattern.Node.{Node}
use Rattle.pattern_core.specs.declared.pattern.Pattern.{Pattern}
use Rattle.pattern_core.specs.Evaluation.{IsEvaluationOf}
use Rattle.pattern_core.specs.Library.{AreRules}
use Rattle.pattern_core.specs.Order.{source_cmp, node_cmp, put, multiset, pattern_cmp, IsRising}
use Rattle.pattern_core.specs.Pattern.{IsWellFormed, AreFitting}
use Rattle.pattern_core.specs.Rule.{IsRule, IsPlainRule}
use Rattle.pattern_core.specs.Walk.{IsCanonical}
use Rattle.pattern_core.proofs.TotalLemmas.{IsLimited, is_total_order}
use Rattle.plain_search.specs.Agreement.{IsTableOf}
use Rattle.plain_search.specs.declared.rules.RuleSieve.{RuleSieve}
use Rattle.plain_search.specs.Patterns.{AreKept, ArePatterns}
use Rattle.plain_search.specs.Rules.{AreRulesOf, AreRulesAmong, IsSieveFor, IsKept, Keeps}
use Rattle.plain_search.specs.Sieve.{Taken}
use Rattle.plain_search.proofs.GrownLemmas.{length-multiset}
use Rattle.plain_search.proofs.KeptLemmas.{In_of_kept, In-kept, IsOrdered-kept}
use Rattle.plain_search.proofs.ListLemmas.{IsRising-from_ordered}
use Rattle.plain_search.proofs.OrderingLemmas.{Lower, then_less, then_equal}
use Rattle.plain_search.proofs.TakenLemmas.{NeverFalls, put_after, put_before}

-- ---- lists that rise

ordered_from_rising : {X : Type 0} (P : X → Type 0) (cmp : X → X → Ordering)
    → ((x y z : X) → P x → P y → P z → cmp x y ≡ Less → cmp y z ≡ Less → cmp x z ≡ Less)
    → (xs : List X) → ((x : X) → In xs x → P x) → IsRising cmp xs → IsOrdered (Lower cmp) xs
ordered_from_rising P cmp trans [] all h = tt
ordered_from_rising P cmp trans (x ∷ []) all h = (λ y i. absurd i, tt)
ordered_from_rising {X} P cmp trans (x ∷ (y ∷ ys)) all h =
    let rest : IsOrdered (Lower cmp) (y ∷ ys) = ordered_from_rising P cmp trans (y ∷ ys) (λ z i. all z (inr i)) h.1 in
    (first rest, rest)
  where
    first : IsOrdered (Lower cmp) (y ∷ ys) → (z : X) → In (y ∷ ys) z → Lower cmp x z
    first rest z (inl e) = subst (Lower cmp x) e h.0
    first rest z (inr i) =
        trans x y z (all x (inl refl)) (all y (inr (inl refl))) (all z (inr (inr i))) h.0 (rest.0 z i)

-- patterns of a goal that rise are in order
pub IsOrdered-patterns : (f : File) (g : Goal) → IsLimited f g → (ps : List Pattern)
    → ((p : Pattern) → In ps p → IsWellFormed f g p) → IsRising pattern_cmp ps → IsOrdered (Lower pattern_cmp) ps
IsOrdered-patterns f g limits ps all h =
    let total = is_total_order f g limits in
    ordered_from_rising (IsWellFormed f g) pattern_cmp total.transitive ps all h

-- ---- what the sieve keeps

-- one more pattern, and then what is kept of the rest
kept_more : (f : File) (g : Goal) (p : Pattern) (ps old mid new : List Pattern) → IsKept f g p old mid
    → (ks : List Pattern) × AreKept (IsPlainRule f g) ps ks × (new ≡ mid ++ ks)
    → (ks : List Pattern) × AreKept (IsPlainRule f g) (p ∷ ps) ks × (new ≡ old ++ ks)
kept_more f g p ps old mid new (inl k) r = (
  p ∷ r.0,
  inl (k.0, (r.0, refl, r.1)),
  r.2 ∙ ap (λ (xs : List Pattern). xs ++ r.0) k.1 ∙ sym (append-move old p r.0),
)
kept_more f g p ps old mid new (inr n) r =
    (r.0, inr (n.0, r.1), r.2 ∙ ap (λ (xs : List Pattern). xs ++ r.0) n.1)

-- a step, where the sieve is for this goal of this file
step_kept : (s : Spec) (place : ℕ) (g : Goal) → slice_get (file s).goals place ≡ Some g → (p : Pattern)
    → (old new : RuleSieve) → old.spec.now ≡ s → old.goal ≡ place → Keeps old p new
    → IsKept (file s) g p old.found.items new.found.items
step_kept s place g there p old new e n step =
    let here : slice_get (file s).goals old.goal ≡ Some g =
    subst (λ m. slice_get (file s).goals m ≡ Some g) (sym n) there in
    subst (λ (t : Spec). IsKept (file t) g p old.found.items new.found.items) e
    (step.found g (subst (λ (t : Spec). slice_get (file t).goals old.goal ≡ Some g) (sym e) here))

pub kept-from_taken : (s : Spec) (place : ℕ) (g : Goal) → slice_get (file s).goals place ≡ Some g
    → (ps : List Pattern) (old new : RuleSieve) → old.spec.now ≡ s → old.goal ≡ place → Taken Keeps old ps new
    → (ks : List Pattern) × AreKept (IsPlainRule (file s) g) ps ks × (new.found.items ≡ old.found.items ++ ks)
kept-from_taken s place g there [] old new e n h =
    ([], refl, ap (λ (x : RuleSieve). x.found.items) (sym h) ∙ sym (append-nothing old.found.items))
kept-from_taken s place g there (p ∷ ps) old new e n h =
    let mid : RuleSieve = h.0 in
    let step : Keeps old p mid = h.1 in
    kept_more (file s) g p ps old.found.items mid.found.items new.found.items
    (step_kept s place g there p old mid e n step)
    (kept-from_taken s place g there ps mid new (step.spec ∙ e) (step.goal ∙ n) h.2)

-- a sieve that was for this goal took a pattern
pub Keeps-from_kept : (s : Spec) (place : ℕ) (p : Pattern) (old new : RuleSieve) → IsSieveFor s place old
    → new.spec.now ≡ old.spec.now → new.goal ≡ old.goal
    → ((g : Goal) → slice_get (file s).goals place ≡ Some g → IsKept (file s) g p old.found.items new.found.items)
    → Keeps old p new
Keeps-from_kept s place p old new is spec goal kept = record {
  spec = spec;
  goal = goal;
  found = λ g there.
      subst (λ (t : Spec). IsKept (file t) g p old.found.items new.found.items) (sym is.spec)
      (kept g (subst (λ m. slice_get (file s).goals m ≡ Some g) is.goal
      (subst (λ (t : Spec). slice_get (file t).goals old.goal ≡ Some g) is.spec there)));
}

-- it is for this goal still
pub IsSieveFor-still : (s : Spec) (place : ℕ) (old new : RuleSieve) → IsSieveFor s place old
    → new.spec.now ≡ old.spec.now → new.goal ≡ old.goal → new.wanted ≡ old.wanted → IsEvaluationOf s new.evaluation
    → IsSieveFor s place new
IsSieveFor-still s place old new is spec goal wanted evaluation = record {
  table = is.table;
  spec = spec ∙ is.spec;
  goal = goal ∙ is.goal;
  evaluation = evaluation;
  small = is.small;
  wanted = subst (IsTableOf s place) (sym wanted) is.wanted;
}

-- ---- the rules of one multiset

-- over values a rule is one over all inputs
abbrev pub AreRulesPlain : File → Goal → Type 0
AreRulesPlain f g = (p : Pattern) → IsWellFormed f g p → IsRule f g p ↔ IsPlainRule f g p

pub AreRulesOf-from_kept : (f : File) (g : Goal) (ops : List ℕ) (ps ks : List Pattern) → IsLimited f g
    → AreRulesPlain f g → ArePatterns f g ops ps → AreKept (IsPlainRule f g) ps ks → AreRulesOf f g ops ks
AreRulesOf-from_kept f g ops ps ks limits plain patterns kept =
    let Keep : Pattern → Type 0 = IsPlainRule f g in
    record {
      rising =
          IsRising-from_ordered pattern_cmp ks
          (IsOrdered-kept (Lower pattern_cmp) Keep ps ks kept
          (IsOrdered-patterns f g limits ps
          (λ p i. ((patterns.members p).0 (Contains-from_In ps p i)).0) patterns.rising));
      members = λ p. (
        λ c. let r = In_of_kept Keep ps ks kept p (In-from_Contains ks p c) in
            let is = (patterns.members p).0 (Contains-from_In ps p r.0) in
            (is.0, is.1, is.2, (plain p is.0).1 r.1),
        λ h. Contains-from_In ks p (In-kept Keep ps ks kept p
            (In-from_Contains ps p ((patterns.members p).1 (h.0, h.1, h.2))) ((plain p h.0).0 h.3)),
      );
    }

-- what the sieve has found at the end, where it began with nothing
pub rules-from_sieve : (s : Spec) (place : ℕ) (g : Goal) → slice_get (file s).goals place ≡ Some g
    → (ops : List ℕ) (old new : RuleSieve) → IsLimited (file s) g → AreRulesPlain (file s) g
    → old.spec.now ≡ s → old.goal ≡ place → old.found.items ≡ []
    → (ps : List Pattern) × ArePatterns (file s) g ops ps × Taken Keeps old ps new
    → AreRulesOf (file s) g ops new.found.items
rules-from_sieve s place g there ops old new limits plain e n none h =
    let k = kept-from_taken s place g there h.0 old new e n h.2 in
    let all : k.0 ≡ new.found.items = sym (k.2 ∙ ap (λ (xs : List Pattern). xs ++ k.0) none) in
    subst (AreRulesOf (file s) g ops) all
    (AreRulesOf-from_kept (file s) g ops h.0 k.0 limits plain h.1 k.1)

-- ---- the rules of several multisets

-- of two patterns of a size that one is less whose multiset is
pub less_by_multiset : (p q : Pattern) → length (multiset p.nodes) ≡ length (multiset q.nodes)
    → Before (multiset p.nodes) (multiset q.nodes) → Lower pattern_cmp p q
less_by_multiset p q same before =
    let last : Ordering =
    ordering_then (slice_cmp node_cmp p.nodes q.nodes) (slice_cmp source_cmp p.results q.results) in
    let sizes : length q.nodes ≡ length p.nodes =
    sym (length-multiset q.nodes) ∙ sym same ∙ length-multiset p.nodes in
    then_equal (nat_cmp (length p.nodes) (length q.nodes))
    (ordering_then (slice_cmp nat_cmp (multiset p.nodes) (multiset q.nodes)) last) Less
    (ap (nat_cmp (length p.nodes)) sizes ∙ nat_cmp-same (length p.nodes))
    (then_less (slice_cmp nat_cmp (multiset p.nodes) (multiset q.nodes)) last before)

pub rises_on : {X : Type 0} (cmp : X → X → Ordering) (xs ys : List X) → IsRising cmp xs → IsRising cmp ys
    → ((x y : X) → In xs x → In ys y → Lower cmp x y) → IsRising cmp (xs ++ ys)
rises_on cmp [] ys h k apart = k
rises_on cmp (x ∷ []) [] h k apart = tt
rises_on cmp (x ∷ []) (y ∷ ys) h k apart = (apart x y (inl refl) (inl refl), k)
rises_on cmp (x ∷ (z ∷ xs)) ys h k apart =
    (h.0, rises_on cmp (z ∷ xs) ys h.1 k (λ a b i j. apart a b (inr i) j))

pub AreRulesAmong-none : (f : File) (g : Goal) → AreRulesAmong f g [] []
AreRulesAmong-none f g = record {
  rising = tt;
  members = λ p. (
    λ c. absurd (In-from_Contains [] p c),
    λ h. absurd (In-from_Contains [] (multiset p.nodes) h.2),
  );
}

pub AreRulesAmong-more : (f : File) (g : Goal) (multis : List (List ℕ)) (ops : List ℕ) (rules more : List Pattern)
    → ((xs : List ℕ) → In multis xs → (length xs ≡ length ops) × Before xs ops) → AreRulesAmong f g multis rules
    → AreRulesOf f g ops more → AreRulesAmong f g (multis ++ ops ∷ []) (rules ++ more)
AreRulesAmong-more f g multis ops rules more before among of = record {
  rising = rises_on pattern_cmp rules more among.rising of.rising apart;
  members = λ p. (
    λ c. found p (In-append_cases rules more p (In-from_Contains (rules ++ more) p c)),
    λ h. Contains-from_In (rules ++ more) p (listed p h
        (In-append_cases multis (ops ∷ []) (multiset p.nodes) (In-from_Contains (multis ++ ops ∷ []) (multiset p.nodes)
        h.2))),
  );
}
  where
    Is : Pattern → Type 0
    Is p =
        IsWellFormed f g p × IsCanonical p × Contains (multis ++ ops ∷ []) (multiset p.nodes) × IsRule f g p

    apart : (p q : Pattern) → In rules p → In more q → Lower pattern_cmp p q
    apart p q i j =
        let left = (among.members p).0 (Contains-from_In rules p i) in
        let right = (of.members q).0 (Contains-from_In more q j) in
        let b = before (multiset p.nodes) (In-from_Contains multis (multiset p.nodes) left.2) in
        less_by_multiset p q (b.0 ∙ ap length (sym right.2))
        (subst (Before (multiset p.nodes)) (sym right.2) b.1)

    found : (p : Pattern) → In rules p ⊎ In more p → Is p
    found p (inl i) =
        let h = (among.members p).0 (Contains-from_In rules p i) in (
          h.0,
          h.1,
          Contains-from_In (multis ++ ops ∷ []) (multiset p.nodes)
              (In-append_left multis (ops ∷ []) (multiset p.nodes) (In-from_Contains multis (multiset p.nodes) h.2)),
          h.3,
        )
    found p (inr i) =
        let h = (of.members p).0 (Contains-from_In more p i) in (
          h.0,
          h.1,
          Contains-from_In (multis ++ ops ∷ []) (multiset p.nodes)
              (In-append_right multis (ops ∷ []) (multiset p.nodes) (inl (sym h.2))),
          h.3,
        )

    listed : (p : Pattern) → Is p → In multis (multiset p.nodes) ⊎ In (ops ∷ []) (multiset p.nodes)
        → In (rules ++ more) p
    listed p h (inl i) =
        In-append_left rules more p (In-from_Contains rules p
        ((among.members p).1 (h.0, h.1, Contains-from_In multis (multiset p.nodes) i, h.3)))
    listed p h (inr (inl e)) =
        In-append_right rules more p (In-from_Contains more p ((of.members p).1 (h.0, h.1, sym e, h.3)))
    listed p h (inr (inr i)) = absurd i

-- ---- the rules of a size

In_of_put : (x : ℕ) (ys : List ℕ) (z : ℕ) → In (put x ys) z → (x ≡ z) ⊎ In ys z
In_of_put x [] z (inl e) = inl e
In_of_put x [] z (inr i) = absurd i
In_of_put x (y ∷ ys) z i = by (nat_le x y) (In_of_put x ys z) i
  where
    by : (b : Bool) → (In (put x ys) z → (x ≡ z) ⊎ In ys z) → In (cond b (x ∷ (y ∷ ys)) (y ∷ put x ys)) z
        → (x ≡ z) ⊎ In (y ∷ ys) z
    by true later (inl e) = inl e
    by true later (inr j) = inr j
    by false later (inl e) = inr (inl e)
    by false later (inr j) = elim (later j) [ inl e ↦ inl e | inr k ↦ inr (inr k) ]

NeverFalls-put : (x : ℕ) (ys : List ℕ) → NeverFalls ys → NeverFalls (put x ys)
NeverFalls-put x [] h = (λ z i. absurd i, tt)
NeverFalls-put x (y ∷ ys) h =
    elim (cases_lt y x) [
      | inl l ↦ subst NeverFalls (sym (put_after x y ys l)) (
        λ z i. elim (In_of_put x ys z i) [ inl e ↦ omega (arith, l, e) | inr j ↦ h.0 z j ],
        NeverFalls-put x ys h.1,
      )
      | inr l ↦ subst NeverFalls (sym (put_before x y ys l)) (λ z i. least l z i, h)
    ]
  where
    least : x ≤ y → (z : ℕ) → In (y ∷ ys) z → x ≤ z
    least l z (inl e) = omega (arith, l, e)
    least l z (inr j) = let m : y ≤ z = h.0 z j in omega (arith, l, m)

NeverFalls-multiset : (ns : List Node) → NeverFalls (multiset ns)
NeverFalls-multiset [] = tt
NeverFalls-multiset (n ∷ ns) = NeverFalls-put n.op (multiset ns) (NeverFalls-multiset ns)

test_from_NeverFalls : (xs : List ℕ) → NeverFalls xs → never_falls xs ≡ true
test_from_NeverFalls [] h = refl
test_from_NeverFalls (x ∷ []) h = refl
test_from_NeverFalls (x ∷ (y ∷ ys)) h =
    and-both (nat_le x y) (never_falls (y ∷ ys)) (le_true x y (h.0 y (inl refl))) (test_from_NeverFalls (y ∷ ys) h.1)

-- the multiset of a pattern's operations is one of those that never fall
pub multiset_never_falls : (ns : List Node) → never_falls (multiset ns) ≡ true
multiset_never_falls ns = test_from_NeverFalls (multiset ns) (NeverFalls-multiset ns)

In_of_multiset : (ns : List Node) (op : ℕ) → In (multiset ns) op → (n : Node) × In ns n × (n.op ≡ op)
In_of_multiset [] op i = absurd i
In_of_multiset (n ∷ ns) op i =
    elim (In_of_put n.op (multiset ns) op i) [
      | inl e ↦ (n, inl refl, e)
      | inr j ↦ (let r = In_of_multiset ns op j in (r.0, inr r.1, r.2))
    ]

pub operations_below : (f : File) (g : Goal) (ns : List Node) → AreFitting f g ns
    → AreBelow (length f.ops) (multiset ns)
operations_below f g ns fit = λ k d l. below (get_or (multiset ns) k d) (In-get_or (multiset ns) k d l)
  where
    below : (op : ℕ) → In (multiset ns) op → op < length f.ops
    below op i =
        let r = In_of_multiset ns op i in
        let at = Contains-slice_get ns r.0 (Contains-from_In ns r.0 r.1) in
        let is = fit at.0 r.0 at.1 in
        subst (λ m. m < length f.ops) r.2 (slice_get_within f.ops r.0.op is.operation is.in_file)

pub AreRules-from_among : (f : File) (g : Goal) (kinds size : ℕ) (multis : List (List ℕ)) (rules : List Pattern)
    → length f.ops ≡ kinds → AreMultisets kinds size multis → AreRulesAmong f g multis rules → AreRules f g size rules
AreRules-from_among f g kinds size multis rules e are among = record {
  rising = among.rising;
  members = λ p. (
    λ c. let h = (among.members p).0 c in
        (h.0, h.1, sym (length-multiset p.nodes) ∙ ((are.members (multiset p.nodes)).0 h.2).0, h.3),
    λ h. let fit = h.0 in
        (among.members p).1 (
          h.0,
          h.1,
          (are.members (multiset p.nodes)).1 (
            length-multiset p.nodes ∙ h.2,
            subst (λ n. AreBelow n (multiset p.nodes)) e (operations_below f g p.nodes fit.nodes),
            multiset_never_falls p.nodes,
          ),
          h.3,
        ),
  );
}
