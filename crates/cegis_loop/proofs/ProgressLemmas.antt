-- The progress of a search: before its first candidate, and after one more, which an example refutes or which is a
-- rule.
use Rattle.std.proofs.Common.{◌≡◌, ◌≢◌, ◌∙◌, ℕ, ◌+◌, ◌<◌, ◌⊎◌, ⊎_elim, List, [], ◌∷◌, ◌++◌, length, get_or, slice_get}
use Rattle.std.proofs.Common.{Some, All, Contains, refl, sym, ap, subst, inl, inr, arith}
use Rattle.std.specs.Prelude.{AllPairs}
use Rattle.std.proofs.lemmas.List.{length_push}
use Rattle.std.proofs.lemmas.List.Elements.{All-nil, All-push, All-contains, All-weaker, Contains-get_or}
use Rattle.std.proofs.lemmas.List.Elements.{Contains-append_left, Contains-push}
use Rattle.std.proofs.lemmas.List.Quantifiers.{all_pairs_push}
use Rattle.std.proofs.lemmas.Option.{none-some, slice_get_within, slice_get-get_or}
use Rattle.list_lemmas.proofs.Lookups.{push_cases, slice_get-left, slice_get-end, some_at, All-slice_get}
use Rattle.list_lemmas.proofs.Members.{In, In-from_Contains, In-get_or, Contains-from_In}
use Rattle.list_lemmas.proofs.Orders.{AllPairs-from_ordered}
use Rattle.pattern_core.specs.declared.pattern.Example.{Example}
use Rattle.pattern_core.specs.declared.pattern.Pattern.{Pattern}
use Rattle.pattern_core.specs.Claim.{Claim, IsPatternOf, Agrees, IsExample}
use Rattle.pattern_core.specs.Order.{pattern_cmp, IsTotalOrderOf}
use Rattle.pattern_core.specs.Pattern.{IsWellFormed}
use Rattle.pattern_core.specs.Renaming.{IsRenaming}
use Rattle.pattern_core.specs.Rule.{IsRule, IsPlainRule}
use Rattle.claim_outcome.specs.Outcome.{IsRuleOf}
use Rattle.claim_outcome.specs.Record.{AgreesAtAll, IsOpen, IsRefutedAt, AreRefuted}
use Rattle.cegis_loop.specs.Listing.{put_pattern, IsListedBesides}
use Rattle.cegis_loop.specs.Search.{IsListed, IsProgress, IsCounterexample}
use Rattle.cegis_loop.proofs.ListingLemmas.{put-members, put-keeps, put-there, put-rising}

pub progress-none : (c : Claim) → IsProgress c [] [] [] []
progress-none c = record {
  candidates = All-nil (IsPatternOf c);
  differ = AllPairs-from_ordered (λ (p q : Pattern). p ≢ q) [] tt;
  examples = All-nil (IsExample c);
  refuted = (
    [],
    record {
      rising = AllPairs-from_ordered (λ (j k : ℕ). j < k) [] tt;
      as_many = refl;
      each = λ j number x at ex. absurd (none-some number at);
      others = λ k p at apart. absurd (none-some p at);
    },
    λ k p at. absurd (none-some p at),
  );
  blocked = All-nil (Contains []);
  blocked_rules = All-nil (IsPlainRule c.file c.goal);
  blocked_found = All-nil (IsListed []);
  found = λ q i. absurd (In-from_Contains [] q i);
  rules = All-nil (IsRuleOf c);
  rising = tt;
}

-- ---- candidates

later-candidates : (blocks ps : List Pattern) (p : Pattern) → All (Contains ps) blocks
    → All (Contains (ps ++ p ∷ [])) blocks
later-candidates blocks ps p h =
    All-weaker (Contains ps) (Contains (ps ++ p ∷ [])) (λ q i. Contains-append_left ps (p ∷ []) q i) blocks h

differ-more : (ps : List Pattern) (p : Pattern) → AllPairs (λ (p q : Pattern). p ≢ q) ps → ¬ Contains ps p
    → AllPairs (λ (p q : Pattern). p ≢ q) (ps ++ p ∷ [])
differ-more ps p h new =
    all_pairs_push (λ (p q : Pattern). p ≢ q) ps p h (λ k d l e.
    new (subst (Contains ps) e (Contains-get_or ps k d l)))

-- what refuted a candidate refutes it still, where the next candidate agrees there
refuted-still : (c : Claim) (ps : List Pattern) (p : Pattern) (number : ℕ) (x : Example) → Agrees c p x.inputs
    → IsRefutedAt c ps number x → IsRefutedAt c (ps ++ p ∷ []) number x
refuted-still c ps p number x agrees h = record {
  candidate = h.candidate;
  stands = slice_get-left ps (p ∷ []) number h.candidate h.stands;
  differs = h.differs;
  later = λ k q l at. ⊎_elim (λ old. h.later k q l old.1)
      (λ new. subst (λ (r : Pattern). Agrees c r x.inputs) new.1 agrees) (push_cases ps p k q at);
}

-- ---- a candidate that an example refutes

last-refuted : (c : Claim) (ps : List Pattern) (p : Pattern) (x : Example) → ¬ Agrees c p x.inputs
    → IsRefutedAt c (ps ++ p ∷ []) (length ps) x
last-refuted c ps p x differs = record {
  candidate = p;
  stands = slice_get-end ps p;
  differs = differs;
  later = λ k q l at.
      let within = slice_get_within (ps ++ p ∷ []) k q at in
      absurd (omega (arith, within, length_push ps p, l));
}

numbers-rise : (c : Claim) (xs : List Example) (ps : List Pattern) (numbers : List ℕ)
    → AreRefuted c (record { examples = xs; candidates = ps; calls = [] }) numbers
    → AllPairs (λ (j k : ℕ). j < k) (numbers ++ length ps ∷ [])
numbers-rise c xs ps numbers h =
    all_pairs_push (λ (j k : ℕ). j < k) numbers (length ps) h.rising (λ k d l.
    let x = some_at xs k (omega (arith, l, h.as_many)) in
    let refuted = h.each k (get_or numbers k d) x.0 (slice_get-get_or numbers k d l) x.1 in
    slice_get_within ps (get_or numbers k d) refuted.candidate refuted.stands)

refuted-more : (c : Claim) (xs : List Example) (blocks ps : List Pattern) (p : Pattern) (x : Example)
    (numbers : List ℕ) → AreRefuted c (record { examples = xs; candidates = ps; calls = [] }) numbers
    → ((k : ℕ) (q : Pattern) → slice_get ps k ≡ Some q → Contains numbers k ⊎ Contains blocks q)
    → All (IsPlainRule c.file c.goal) blocks → IsOpen c xs ps p → IsCounterexample c p x
    → AreRefuted c (record { examples = xs ++ x ∷ []; candidates = ps ++ p ∷ []; calls = [] })
    (numbers ++ length ps ∷ [])
refuted-more c xs blocks ps p x numbers h each rules fresh counter = record {
  rising = numbers-rise c xs ps numbers h;
  as_many = length_push numbers (length ps) ∙ ap (λ n. n + 1) h.as_many ∙ sym (length_push xs x);
  each = λ j number y at ex. by j number y (push_cases numbers (length ps) j number at) (push_cases xs x j y ex);
  others = λ k q at apart. other k q (push_cases ps p k q at) apart;
}
  where
    by : (j number : ℕ) (y : Example)
        → ((j < length numbers) × (slice_get numbers j ≡ Some number)) ⊎ ((j ≡ length numbers) × (length ps ≡ number))
        → ((j < length xs) × (slice_get xs j ≡ Some y)) ⊎ ((j ≡ length xs) × (x ≡ y))
        → IsRefutedAt c (ps ++ p ∷ []) number y
    by j number y (inl old) (inl seen) =
        refuted-still c ps p number y (All-slice_get (λ (z : Example). Agrees c p z.inputs) xs j y fresh.agrees seen.1)
        (h.each j number y old.1 seen.1)
    by j number y (inl old) (inr last) = absurd (omega (arith, old.0, h.as_many, last.0))
    by j number y (inr last) (inl seen) = absurd (omega (arith, seen.0, h.as_many, last.0))
    by j number y (inr last) (inr new) =
        subst (λ n. IsRefutedAt c (ps ++ p ∷ []) n y) last.1
        (subst (IsRefutedAt c (ps ++ p ∷ []) (length ps)) new.1 (last-refuted c ps p x counter.1))

    other : (k : ℕ) (q : Pattern) → ((k < length ps) × (slice_get ps k ≡ Some q)) ⊎ ((k ≡ length ps) × (p ≡ q))
        → ¬ Contains (numbers ++ length ps ∷ []) k → AgreesAtAll c (xs ++ x ∷ []) q
    other k q (inl old) apart =
        let still : ¬ Contains numbers k = λ i. apart (Contains-append_left numbers (length ps ∷ []) k i) in
        All-push (λ (z : Example). Agrees c q z.inputs) xs x (h.others k q old.1 still)
        (⊎_elim (λ i. absurd (still i))
        (λ i. All-contains (IsPlainRule c.file c.goal) blocks q rules i x.inputs counter.0) (each k q old.1))
    other k q (inr last) apart =
        absurd (apart (subst (Contains (numbers ++ length ps ∷ [])) (sym last.0) (Contains-push numbers (length ps))))

pub progress-refuted : (c : Claim) (xs : List Example) (blocks ps listed : List Pattern) (p : Pattern) (x : Example)
    → IsProgress c xs blocks ps listed → IsOpen c xs ps p → IsCounterexample c p x
    → IsProgress c (xs ++ x ∷ []) blocks (ps ++ p ∷ []) listed
progress-refuted c xs blocks ps listed p x h fresh counter =
    let numbers : List ℕ = h.refuted.0 in
    record {
      candidates = All-push (IsPatternOf c) ps p h.candidates fresh.pattern;
      differ = differ-more ps p h.differ fresh.new;
      examples = All-push (IsExample c) xs x h.examples counter.0;
      refuted = (
        numbers ++ length ps ∷ [],
        refuted-more c xs blocks ps p x numbers h.refuted.1 h.refuted.2 h.blocked_rules fresh counter,
        λ k q at. ⊎_elim
            (λ old. ⊎_elim (λ i. inl (Contains-append_left numbers (length ps ∷ []) k i)) (λ i. inr i)
            (h.refuted.2 k q old.1))
            (λ last. inl (subst (Contains (numbers ++ length ps ∷ [])) (sym last.0)
            (Contains-push numbers (length ps)))) (push_cases ps p k q at),
      );
      blocked = later-candidates blocks ps p h.blocked;
      blocked_rules = h.blocked_rules;
      blocked_found = h.blocked_found;
      found = λ q i. let from = h.found q i in (from.0, Contains-append_left ps (p ∷ []) from.0 from.1, from.2);
      rules = h.rules;
      rising = h.rising;
    }

-- ---- a candidate that is a rule

refuted-besides : (c : Claim) (xs : List Example) (ps : List Pattern) (p : Pattern) (numbers : List ℕ)
    → AreRefuted c (record { examples = xs; candidates = ps; calls = [] }) numbers → IsOpen c xs ps p
    → AreRefuted c (record { examples = xs; candidates = ps ++ p ∷ []; calls = [] }) numbers
refuted-besides c xs ps p numbers h fresh = record {
  rising = h.rising;
  as_many = h.as_many;
  each = λ j number y at ex.
      refuted-still c ps p number y (All-slice_get (λ (z : Example). Agrees c p z.inputs) xs j y fresh.agrees ex)
      (h.each j number y at ex);
  others = λ k q at apart. ⊎_elim (λ old. h.others k q old.1 apart)
      (λ new. subst (λ r. AgreesAtAll c xs r) new.1 fresh.agrees) (push_cases ps p k q at);
}

-- what is listed is listed with one more
listed-still : (listed : List Pattern) (r p : Pattern) → IsListed listed p → IsListed (put_pattern r listed) p
listed-still listed r p h = record {
  canonical = h.canonical;
  stands = Contains-from_In (put_pattern r listed) h.canonical
      (put-keeps r listed h.canonical (In-from_Contains listed h.canonical h.stands));
  is_canonical = h.is_canonical;
  renaming = h.renaming;
  only = h.only;
}

-- the canonical renaming of a rule of the claim is one
canonical-rule : (c : Claim) (p : Pattern) (listed more : List Pattern) → IsPatternOf c p
    → (b : IsListedBesides c.file c.goal p listed more) → IsRule c.file c.goal b.canonical → IsRuleOf c b.canonical
canonical-rule c p listed more h b rule = record {
  pattern = record { well_formed = b.well_formed; ops = b.ops ∙ h.ops };
  canonical = b.is_canonical;
  rule = rule;
}

-- what holds of all of a list and of one more pattern holds of the list with that pattern
all-put : (P : Pattern → Type 0) (p : Pattern) (qs : List Pattern) → P p → All P qs → All P (put_pattern p qs)
all-put P p qs own all = λ k d l.
    let r : Pattern = get_or (put_pattern p qs) k d in
    ⊎_elim (λ e. subst P e own) (λ i. All-contains P qs r all (Contains-from_In qs r i))
    (put-members p qs r (In-get_or (put_pattern p qs) k d l))

pub progress-confirmed : (c : Claim) (xs : List Example) (blocks ps listed more : List Pattern) (p : Pattern)
    → IsProgress c xs blocks ps listed → IsOpen c xs ps p → IsPlainRule c.file c.goal p
    → IsListedBesides c.file c.goal p listed more → IsTotalOrderOf (IsWellFormed c.file c.goal) pattern_cmp
    → ((q : Pattern) → IsWellFormed c.file c.goal q → IsPlainRule c.file c.goal q → IsRule c.file c.goal q)
    → IsProgress c xs (blocks ++ p ∷ []) (ps ++ p ∷ []) more
progress-confirmed c xs blocks ps listed more p h fresh rule b total plain =
    let q : Pattern = b.canonical in
    let now : List Pattern = put_pattern q listed in
    let all : (r : Pattern) → In listed r → IsWellFormed c.file c.goal r =
    λ r i. (All-contains (IsRuleOf c) listed r h.rules (Contains-from_In listed r i)).pattern.well_formed in
    subst (IsProgress c xs (blocks ++ p ∷ []) (ps ++ p ∷ [])) (sym b.put) (record {
      candidates = All-push (IsPatternOf c) ps p h.candidates fresh.pattern;
      differ = differ-more ps p h.differ fresh.new;
      examples = h.examples;
      refuted = (
        h.refuted.0,
        refuted-besides c xs ps p h.refuted.0 h.refuted.1 fresh,
        λ k r at. ⊎_elim
            (λ old. ⊎_elim (λ i. inl i) (λ i. inr (Contains-append_left blocks (p ∷ []) r i))
            (h.refuted.2 k r old.1))
            (λ last. inr (subst (Contains (blocks ++ p ∷ [])) last.1 (Contains-push blocks p)))
            (push_cases ps p k r at),
      );
      blocked = All-push (Contains (ps ++ p ∷ [])) blocks p (later-candidates blocks ps p h.blocked)
          (Contains-push ps p);
      blocked_rules = All-push (IsPlainRule c.file c.goal) blocks p h.blocked_rules rule;
      blocked_found = All-push (IsListed now) blocks p
          (All-weaker (IsListed listed) (IsListed now) (λ r i. listed-still listed q r i) blocks h.blocked_found)
          (record {
            canonical = q;
            stands = Contains-from_In now q
                (put-there (IsWellFormed c.file c.goal) total q listed b.well_formed all);
            is_canonical = b.is_canonical;
            renaming = b.renaming;
            only = b.only;
          });
      found = λ r i. ⊎_elim (λ e. (p, Contains-push ps p, subst (IsRenaming p) e b.renaming))
          (λ j. let from = h.found r (Contains-from_In listed r j) in
          (from.0, Contains-append_left ps (p ∷ []) from.0 from.1, from.2))
          (put-members q listed r (In-from_Contains now r i));
      rules = all-put (IsRuleOf c) q listed
          (canonical-rule c p listed more fresh.pattern b (plain q b.well_formed (b.rule rule))) h.rules;
      rising = put-rising (IsWellFormed c.file c.goal) total q listed b.well_formed all h.rising;
    })

-- ---- the same progress

pub progress-same : (c : Claim) (xs ys : List Example) (blocks others ps qs listed more : List Pattern) → ys ≡ xs
    → others ≡ blocks → qs ≡ ps → more ≡ listed → IsProgress c xs blocks ps listed → IsProgress c ys others qs more
progress-same c xs ys blocks others ps qs listed more a b d e h =
    subst (λ (zs : List Example). IsProgress c zs others qs more) (sym a)
    (subst (λ (rs : List Pattern). IsProgress c xs rs qs more) (sym b)
    (subst (λ (rs : List Pattern). IsProgress c xs blocks rs more) (sym d)
    (subst (IsProgress c xs blocks ps) (sym e) h)))
