-- The patterns that were found for a goal, multiset by multiset, and the multisets that are open.
use Rattle.std.proofs.Common.{◌≡◌, ℕ, ◌+◌, ◌<◌, ◌≤◌, ◌⊎◌, Bool, true, false, cond, List, [], ◌∷◌, ◌++◌, length, take}
use Rattle.std.proofs.Common.{refl}
use Rattle.std.proofs.Common.{sym, ap, subst, ◌∙◌, arith, inl, inr, Some, slice_get, Contains}
use Rattle.std.specs.Prelude.{IsTrue, ◌↔◌}
use Rattle.std.specs.Cmp.Lexicographic.{slice_cmp}
use Rattle.std.specs.Ordering.{nat_cmp}
use Rattle.std.specs.declared.cmp.Ordering.TheVariants.{Less}
use Rattle.std.proofs.lemmas.Bool.{cases_lt, false≢true}
use Rattle.std.proofs.lemmas.List.{take_all}
use Rattle.std.proofs.lemmas.List.Elements.{All-contains}
use Rattle.list_lemmas.proofs.Lists.{append-nothing}
use Rattle.list_lemmas.proofs.Members.{In, In-from_Contains, Contains-from_In, In-slice_get}
use Rattle.list_lemmas.proofs.Members.{In-append_left, In-append_right, In-append_cases}
use Rattle.list_lemmas.proofs.Orders.{Before, ordered-from_AllPairs, nat_cmp-same, nat_cmp-less}
use Rattle.multiset_rank.specs.Multisets.{multisets, never_falls, AreBelow, AreMultisets}
use Rattle.multiset_rank.specs.Claims.{Plan, claims}
use Rattle.multiset_rank.proofs.TupleLemmas.{multisets_law}
use Rattle.pattern_core.specs.declared.pattern.GoalAnswer.{GoalAnswer}
use Rattle.pattern_core.specs.declared.pattern.Pattern.{Pattern}
use Rattle.pattern_core.specs.Order.{multiset, pattern_cmp, IsRising}
use Rattle.plain_search.proofs.GrownLemmas.{length-multiset}
use Rattle.plain_search.proofs.SieveLemmas.{less_by_multiset, rises_on}
use Rattle.plain_search.proofs.SizeLemmas.{In_of_take, before_place, take_next}
use Rattle.plain_search.proofs.OrderingLemmas.{Lower, then_less, then_equal}
use Rattle.claim_outcome.specs.declared.outcome.Outcome.{Outcome}
use Rattle.rule_library.specs.Answer.{IsFound, NoneFound, AreFound, IsOpen, AreOpen, multiset_cmp}
use Rattle.rule_library.specs.Answer.{IsAtMost, IsAny, IsAnswerWith, IsAnswerWithout, IsAnswerOf}
use Rattle.rule_library.specs.Book.{IsBook, IsEntry, is_spent}
use Rattle.rule_library.specs.Steps.{AreSorted, IsBelow, IsMadeWith, IsMadeWithout}
use Rattle.rule_library.proofs.EntryLemmas.{entry_once, entry_in_plan}

-- ---- patterns

-- the multisets of a size before a place come before the one in it
abbrev ComeBefore : List (List ℕ) → List ℕ → Type 0
ComeBefore multis ops = (xs : List ℕ) → In multis xs → (length xs ≡ length ops) × Before xs ops

come_before : (kinds size i : ℕ) (ops : List ℕ) → slice_get (multisets kinds size) i ≡ Some ops
    → ComeBefore (take i (multisets kinds size)) ops
come_before kinds size i ops at xs j =
    let ms : List (List ℕ) = multisets kinds size in
    let law = multisets_law kinds size in
    let left = ((law.members xs).0 (Contains-from_In ms xs (In_of_take ms i xs j))).0 in
    let right = ((law.members ops).0 (Contains-from_In ms ops (In-slice_get ms i ops at))).0 in
    (left ∙ sym right, before_place Before ms i ops (ordered-from_AllPairs Before ms law.rising) at xs j)

-- the found patterns with these multisets of operations
pub record AreFoundAmong (p : Plan) (book : List (ℕ × Outcome)) (goal : ℕ) (multis : List (List ℕ))
    (rules : List Pattern) : Type 0 where
  pub rising : IsRising pattern_cmp rules
  pub members : (q : Pattern) → Contains rules q ↔ (IsFound p book goal q × Contains multis (multiset q.nodes))

-- a found pattern has the operations of its claim
found_ops : (p : Plan) (book : List (ℕ × Outcome)) (goal : ℕ) (ops : List ℕ) (o : Outcome) (q : Pattern)
    → AreSorted p book → IsEntry p book goal ops o → In o.found q → multiset q.nodes ≡ ops
found_ops p book goal ops o q sorted entry i =
    All-contains (λ (r : Pattern). multiset r.nodes ≡ ops) o.found q (sorted.ops goal ops o entry)
    (Contains-from_In o.found q i)

-- those of a claim are all found patterns with its operations
found_with : (p : Plan) (book : List (ℕ × Outcome)) (goal : ℕ) (ops : List ℕ) (o : Outcome) (q : Pattern)
    → IsBook (length (claims p)) book → AreSorted p book → IsEntry p book goal ops o → IsFound p book goal q
    → multiset q.nodes ≡ ops → In o.found q
found_with p book goal ops o q whole sorted entry found e =
    let i : In found.outcome.found q = In-from_Contains found.outcome.found q found.among in
    let same : found.ops ≡ ops = sym (found_ops p book goal found.ops found.outcome q sorted found.entry i) ∙ e in
    let moved : IsEntry p book goal ops found.outcome =
    subst (λ xs. IsEntry p book goal xs found.outcome) same found.entry in
    subst (λ (r : Outcome). In r.found q) (entry_once p book goal ops found.outcome o whole moved entry) i

pub among-none : (p : Plan) (book : List (ℕ × Outcome)) (goal : ℕ) → AreFoundAmong p book goal [] []
among-none p book goal = record {
  rising = tt;
  members = λ q. (
    λ c. absurd (In-from_Contains [] q c),
    λ h. absurd (In-from_Contains [] (multiset q.nodes) h.1),
  );
}

among-append : (p : Plan) (book : List (ℕ × Outcome)) (goal : ℕ) (multis : List (List ℕ)) (ops : List ℕ) (o : Outcome)
    (rules : List Pattern) → IsBook (length (claims p)) book → AreSorted p book → IsEntry p book goal ops o
    → ComeBefore multis ops → AreFoundAmong p book goal multis rules
    → AreFoundAmong p book goal (multis ++ ops ∷ []) (rules ++ o.found)
among-append p book goal multis ops o rules whole sorted entry before among = record {
  rising = rises_on pattern_cmp rules o.found among.rising (sorted.rising goal ops o entry) apart;
  members = λ q. (
    λ c. found q (In-append_cases rules o.found q (In-from_Contains (rules ++ o.found) q c)),
    λ h. Contains-from_In (rules ++ o.found) q (listed q h
        (In-append_cases multis (ops ∷ []) (multiset q.nodes)
        (In-from_Contains (multis ++ ops ∷ []) (multiset q.nodes) h.1))),
  );
}
  where
    Is : Pattern → Type 0
    Is q = IsFound p book goal q × Contains (multis ++ ops ∷ []) (multiset q.nodes)

    apart : (q r : Pattern) → In rules q → In o.found r → Lower pattern_cmp q r
    apart q r i j =
        let left = ((among.members q).0 (Contains-from_In rules q i)).1 in
        let right : multiset r.nodes ≡ ops = found_ops p book goal ops o r sorted entry j in
        let b = before (multiset q.nodes) (In-from_Contains multis (multiset q.nodes) left) in
        less_by_multiset q r (b.0 ∙ ap length (sym right)) (subst (Before (multiset q.nodes)) (sym right) b.1)

    found : (q : Pattern) → In rules q ⊎ In o.found q → Is q
    found q (inl i) =
        let h = (among.members q).0 (Contains-from_In rules q i) in (
          h.0,
          Contains-from_In (multis ++ ops ∷ []) (multiset q.nodes)
              (In-append_left multis (ops ∷ []) (multiset q.nodes) (In-from_Contains multis (multiset q.nodes) h.1)),
        )
    found q (inr i) = (
      record { ops = ops; outcome = o; entry = entry; among = Contains-from_In o.found q i },
      Contains-from_In (multis ++ ops ∷ []) (multiset q.nodes)
          (In-append_right multis (ops ∷ []) (multiset q.nodes)
          (inl (sym (found_ops p book goal ops o q sorted entry i)))),
    )

    listed : (q : Pattern) → Is q → In multis (multiset q.nodes) ⊎ In (ops ∷ []) (multiset q.nodes)
        → In (rules ++ o.found) q
    listed q h (inl i) =
        In-append_left rules o.found q (In-from_Contains rules q
        ((among.members q).1 (h.0, Contains-from_In multis (multiset q.nodes) i)))
    listed q h (inr (inl e)) =
        In-append_right rules o.found q (found_with p book goal ops o q whole sorted entry h.0 (sym e))
    listed q h (inr (inr i)) = absurd i

-- the patterns of the multisets so far, and of one more
pub among-more : (p : Plan) (book : List (ℕ × Outcome)) (goal kinds size i : ℕ) (ops : List ℕ) (o : Outcome)
    (rules found added : List Pattern) → found ≡ o.found → added ≡ rules ++ found
    → IsBook (length (claims p)) book → AreSorted p book → IsEntry p book goal ops o
    → slice_get (multisets kinds size) i ≡ Some ops
    → AreFoundAmong p book goal (take i (multisets kinds size)) rules
    → AreFoundAmong p book goal (take (i + 1) (multisets kinds size)) added
among-more p book goal kinds size i ops o rules found added same all whole sorted entry at among =
    let ms : List (List ℕ) = multisets kinds size in
    let listed : added ≡ rules ++ o.found = all ∙ ap (λ (qs : List Pattern). rules ++ qs) same in
    subst (AreFoundAmong p book goal (take (i + 1) ms)) (sym listed)
    (subst (λ (xs : List (List ℕ)). AreFoundAmong p book goal xs (rules ++ o.found)) (sym (take_next ms i ops at))
    (among-append p book goal (take i ms) ops o rules whole sorted entry (come_before kinds size i ops at) among))

-- all found patterns of a size
pub AreFound-from_among : (p : Plan) (book : List (ℕ × Outcome)) (goal kinds size i : ℕ) (rules : List Pattern)
    → kinds ≡ p.kinds → AreSorted p book → length (multisets kinds size) ≤ i
    → AreFoundAmong p book goal (take i (multisets kinds size)) rules → AreFound p book goal size rules
AreFound-from_among p book goal kinds size i rules e sorted all among = record {
  rising = among.rising;
  members = λ q. (
    λ c. let h = (whole.members q).0 c in
        (h.0, sym (length-multiset q.nodes) ∙ ((law.members (multiset q.nodes)).0 h.1).0),
    λ h. (whole.members q).1 (h.0, (law.members (multiset q.nodes)).1 (of_plan q h.0 h.1)),
  );
}
  where
    law : AreMultisets kinds size (multisets kinds size)
    law = multisets_law kinds size

    whole : AreFoundAmong p book goal (multisets kinds size) rules
    whole = subst (λ (xs : List (List ℕ)). AreFoundAmong p book goal xs rules) (take_all i (multisets kinds size) all)
        among

    of_plan : (q : Pattern) → IsFound p book goal q → length q.nodes ≡ size
        → (length (multiset q.nodes) ≡ size) × AreBelow kinds (multiset q.nodes)
        × IsTrue (never_falls (multiset q.nodes))
    of_plan q found long =
        let i : In found.outcome.found q = In-from_Contains found.outcome.found q found.among in
        let same = found_ops p book goal found.ops found.outcome q sorted found.entry i in
        let plan = entry_in_plan p book goal found.ops found.outcome found.entry in (
          length-multiset q.nodes ∙ long,
          subst (AreBelow kinds) (sym same) (subst (λ n. AreBelow n found.ops) (sym e) plan.0.kinds_below),
          subst (λ xs. IsTrue (never_falls xs)) (sym same) plan.1,
        )

-- ---- open claims

-- of fewer operations, or one of these of the size
abbrev pub IsSeen : ℕ → List (List ℕ) → List ℕ → Type 0
IsSeen size multis ops = (length ops < size) ⊎ Contains multis ops

-- what is said of open multisets in other words
open-same : (p : Plan) (book : List (ℕ × Outcome)) (goal : ℕ) (V W : List ℕ → Type 0) (multis : List (List ℕ))
    → ((ops : List ℕ) → IsOpen p book goal ops → V ops → W ops)
    → ((ops : List ℕ) → IsOpen p book goal ops → W ops → V ops) → AreOpen p book goal V multis
    → AreOpen p book goal W multis
open-same p book goal V W multis there back are = record {
  rising = are.rising;
  members = λ ops. (
    λ c. let h = (are.members ops).0 c in (h.0, there ops h.0 h.1),
    λ h. (are.members ops).1 (h.0, back ops h.0 h.1),
  );
}

pub open-none : (p : Plan) (book : List (ℕ × Outcome)) (goal size : ℕ) → size ≡ 0
    → AreOpen p book goal (IsBelow size) []
open-none p book goal size zero_size = record {
  rising = tt;
  members = λ ops. (
    λ c. absurd (In-from_Contains [] ops c),
    λ h. absurd (let l = h.1 in omega (arith, l, zero_size)),
  );
}

pub open-before : (p : Plan) (book : List (ℕ × Outcome)) (goal size : ℕ) (multis : List (List ℕ))
    → AreOpen p book goal (IsBelow size) multis → AreOpen p book goal (IsSeen size []) multis
open-before p book goal size multis are =
    open-same p book goal (IsBelow size) (IsSeen size []) multis (λ ops is l. inl l)
    (λ ops is h. elim h [ inl l ↦ l | inr c ↦ absurd (In-from_Contains [] ops c) ]) are

open-append : (p : Plan) (book : List (ℕ × Outcome)) (goal size : ℕ) (multis : List (List ℕ)) (ops : List ℕ)
    (o : Outcome) (undecided : List (List ℕ)) → IsBook (length (claims p)) book → IsEntry p book goal ops o
    → length ops ≡ size → ComeBefore multis ops → AreOpen p book goal (IsSeen size multis) undecided
    → (b : Bool) → is_spent o.end ≡ b
    → AreOpen p book goal (IsSeen size (multis ++ ops ∷ [])) (undecided ++ cond b (ops ∷ []) [])
open-append p book goal size multis ops o undecided whole entry long before are = by
  where
    wider : (xs : List ℕ) → IsSeen size multis xs → IsSeen size (multis ++ ops ∷ []) xs
    wider xs (inl l) = inl l
    wider xs (inr c) = inr (Contains-from_In (multis ++ ops ∷ []) xs
        (In-append_left multis (ops ∷ []) xs (In-from_Contains multis xs c)))

    narrower : (xs : List ℕ) → IsSeen size (multis ++ ops ∷ []) xs → IsSeen size multis xs ⊎ (ops ≡ xs)
    narrower xs (inl l) = inl (inl l)
    narrower xs (inr c) =
        elim (In-append_cases multis (ops ∷ []) xs (In-from_Contains (multis ++ ops ∷ []) xs c)) [
          | inl i ↦ inl (inr (Contains-from_In multis xs i))
          | inr j ↦ elim j [ inl e ↦ inr e | inr k ↦ absurd k ]
        ]

    is_open : (xs : List ℕ) → IsOpen p book goal xs → ops ≡ xs → is_spent o.end ≡ true
    is_open xs is e =
        let moved : IsEntry p book goal ops is.outcome =
        subst (λ ys. IsEntry p book goal ys is.outcome) (sym e) is.entry in
        subst (λ (r : Outcome). is_spent r.end ≡ true)
        (entry_once p book goal ops is.outcome o whole moved entry) is.spent

    lower : (xs : List ℕ) → IsSeen size multis xs → Lower multiset_cmp xs ops
    lower xs (inl l) =
        then_less (nat_cmp (length xs) (length ops)) (slice_cmp nat_cmp xs ops)
        (nat_cmp-less (length xs) (length ops) (omega (arith, l, long)))
    lower xs (inr c) =
        let b = before xs (In-from_Contains multis xs c) in
        then_equal (nat_cmp (length xs) (length ops)) (slice_cmp nat_cmp xs ops) Less
        (ap (λ n. nat_cmp n (length ops)) b.0 ∙ nat_cmp-same (length ops)) b.1

    apart : (xs ys : List ℕ) → In undecided xs → In (ops ∷ []) ys → Lower multiset_cmp xs ys
    apart xs ys i (inl e) =
        subst (Lower multiset_cmp xs) e (lower xs ((are.members xs).0 (Contains-from_In undecided xs i)).1)
    apart xs ys i (inr j) = absurd j

    by : (b : Bool) → is_spent o.end ≡ b
        → AreOpen p book goal (IsSeen size (multis ++ ops ∷ [])) (undecided ++ cond b (ops ∷ []) [])
    by true spent = record {
      rising = rises_on multiset_cmp undecided (ops ∷ []) are.rising tt apart;
      members = λ xs. (
        λ c. elim (In-append_cases undecided (ops ∷ []) xs (In-from_Contains (undecided ++ ops ∷ []) xs c)) [
          | inl i ↦ (let h = (are.members xs).0 (Contains-from_In undecided xs i) in (h.0, wider xs h.1))
          | inr j ↦ last xs j
        ],
        λ h. Contains-from_In (undecided ++ ops ∷ []) xs (elim (narrower xs h.1) [
          | inl s ↦ In-append_left undecided (ops ∷ []) xs
              (In-from_Contains undecided xs ((are.members xs).1 (h.0, s)))
          | inr e ↦ In-append_right undecided (ops ∷ []) xs (inl e)
        ]),
      );
    }
      where
        last : (xs : List ℕ) → In (ops ∷ []) xs → IsOpen p book goal xs × IsSeen size (multis ++ ops ∷ []) xs
        last xs (inl e) =
            let is : IsOpen p book goal ops = record { outcome = o; entry = entry; spent = spent } in
            subst (λ ys. IsOpen p book goal ys × IsSeen size (multis ++ ops ∷ []) ys) e (
              is,
              inr (Contains-from_In (multis ++ ops ∷ []) ops (In-append_right multis (ops ∷ []) ops (inl refl))),
            )
        last xs (inr j) = absurd j
    by false spent =
        subst (AreOpen p book goal (IsSeen size (multis ++ ops ∷ []))) (sym (append-nothing undecided))
        (open-same p book goal (IsSeen size multis) (IsSeen size (multis ++ ops ∷ [])) undecided
        (λ xs is s. wider xs s)
        (λ xs is s. elim (narrower xs s) [
          | inl a ↦ a
          | inr e ↦ absurd (false≢true (sym spent ∙ is_open xs is e))
        ]) are)

pub open-more : (p : Plan) (book : List (ℕ × Outcome)) (goal kinds size i : ℕ) (ops : List ℕ) (o : Outcome)
    (undecided added : List (List ℕ)) → added ≡ undecided ++ cond (is_spent o.end) (ops ∷ []) []
    → IsBook (length (claims p)) book → IsEntry p book goal ops o → length ops ≡ size
    → slice_get (multisets kinds size) i ≡ Some ops
    → AreOpen p book goal (IsSeen size (take i (multisets kinds size))) undecided
    → AreOpen p book goal (IsSeen size (take (i + 1) (multisets kinds size))) added
open-more p book goal kinds size i ops o undecided added all whole entry long at are =
    let ms : List (List ℕ) = multisets kinds size in
    let more : List (List ℕ) = undecided ++ cond (is_spent o.end) (ops ∷ []) [] in
    subst (AreOpen p book goal (IsSeen size (take (i + 1) ms))) (sym all)
    (subst (λ (xs : List (List ℕ)). AreOpen p book goal (IsSeen size xs) more) (sym (take_next ms i ops at))
    (open-append p book goal size (take i ms) ops o undecided whole entry long (come_before kinds size i ops at) are
    (is_spent o.end) refl))

-- all of a size were seen
pub open-after : (p : Plan) (book : List (ℕ × Outcome)) (goal kinds size i : ℕ) (multis : List (List ℕ))
    → kinds ≡ p.kinds → length (multisets kinds size) ≤ i
    → AreOpen p book goal (IsSeen size (take i (multisets kinds size))) multis
    → AreOpen p book goal (IsBelow (size + 1)) multis
open-after p book goal kinds size i multis e all are =
    open-same p book goal (IsSeen size ms) (IsBelow (size + 1)) multis there back
    (subst (λ (xs : List (List ℕ)). AreOpen p book goal (IsSeen size xs) multis) (take_all i ms all) are)
  where
    ms : List (List ℕ)
    ms = multisets kinds size

    there : (ops : List ℕ) → IsOpen p book goal ops → IsSeen size ms ops → length ops < size + 1
    there ops is (inl l) = omega (arith, l)
    there ops is (inr c) = let long = (((multisets_law kinds size).members ops).0 c).0 in omega (arith, long)

    back : (ops : List ℕ) → IsOpen p book goal ops → length ops < size + 1 → IsSeen size ms ops
    back ops is l =
        let plan = entry_in_plan p book goal ops is.outcome is.entry in
        elim (cases_lt (length ops) size) [
          | inl a ↦ inl a
          | inr b ↦ inr (((multisets_law kinds size).members ops).1
              (omega (arith, l, b), subst (λ n. AreBelow n ops) (sym e) plan.0.kinds_below, plan.1))
        ]

-- ---- the answer

-- no pattern of fewer nodes was found
abbrev pub NoneBelow : Plan → List (ℕ × Outcome) → ℕ → ℕ → Type 0
NoneBelow p book goal size = (q : Pattern) → IsFound p book goal q → size ≤ length q.nodes

pub none_below-more : (p : Plan) (book : List (ℕ × Outcome)) (goal size : ℕ) (rules : List Pattern) → rules ≡ []
    → NoneBelow p book goal size → AreFound p book goal size rules → NoneBelow p book goal (size + 1)
none_below-more p book goal size rules empty none are q found =
    elim (cases_lt size (length q.nodes)) [
      | inl l ↦ omega (arith, l)
      | inr m ↦ (let least = none q found in
          let listed : In rules q = In-from_Contains rules q ((are.members q).1 (found, omega (arith, m, least))) in
          let nothing : In [] q = subst (λ (xs : List Pattern). In xs q) empty listed in
          absurd nothing)
    ]

pub answer-with : (p : Plan) (book : List (ℕ × Outcome)) (goal size : ℕ) (rules : List Pattern)
    (undecided : List (List ℕ)) (a : GoalAnswer) → (rules ≡ [] → ⊥) → NoneBelow p book goal size
    → AreFound p book goal size rules → AreOpen p book goal (IsBelow (size + 1)) undecided
    → IsMadeWith size rules undecided a → IsAnswerOf p book goal a
answer-with p book goal size [] undecided a some none are among made = absurd (some refl)
answer-with p book goal size (r ∷ rs) undecided a some none are among made =
    elim made [
      | inl h ↦ subst (IsAnswerOf p book goal) (sym h.1)
          (subst (IsAnswerWith p book goal size (r ∷ rs)) h.0 is)
      | inr h ↦ subst (IsAnswerOf p book goal) (sym h.1) (h.0, is)
    ]
  where
    is : IsAnswerWith p book goal size (r ∷ rs) undecided
    is =
        let first = (are.members r).0 (Contains-from_In (r ∷ rs) r (inl refl)) in record {
          least = record { pattern = r; found = first.0; of_size = first.1; least = none };
          listed = are;
          left = open-same p book goal (IsBelow (size + 1)) (IsAtMost size) undecided
              (λ ops is l. omega (arith, l)) (λ ops is l. omega (arith, l)) among;
        }

pub answer-without : (p : Plan) (book : List (ℕ × Outcome)) (goal size : ℕ) (undecided : List (List ℕ)) (a : GoalAnswer)
    → AreSorted p book → p.bound < size → NoneBelow p book goal size → AreOpen p book goal (IsBelow size) undecided
    → IsMadeWithout undecided a → IsAnswerOf p book goal a
answer-without p book goal size undecided a sorted past none among made =
    elim made [
      | inl h ↦ subst (IsAnswerOf p book goal) (sym h.1) (subst (IsAnswerWithout p book goal) h.0 is)
      | inr h ↦ subst (IsAnswerOf p book goal) (sym h.1) (h.0, is)
    ]
  where
    nothing : NoneFound p book goal
    nothing q found =
        let i : In found.outcome.found q = In-from_Contains found.outcome.found q found.among in
        let same = ap length (found_ops p book goal found.ops found.outcome q sorted found.entry i) in
        let long = length-multiset q.nodes in
        let plan = (entry_in_plan p book goal found.ops found.outcome found.entry).0.size_within in
        let least = none q found in
        absurd (omega (arith, same, long, plan, least, past))

    is : IsAnswerWithout p book goal undecided
    is = record {
      none = nothing;
      left = open-same p book goal (IsBelow size) IsAny undecided (λ ops is l. tt)
          (λ ops is l. let plan = (entry_in_plan p book goal ops is.outcome is.entry).0.size_within in
          omega (arith, plan, past)) among;
    }
