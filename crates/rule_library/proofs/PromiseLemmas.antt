-- What the answers of a book with right entries promise. A claim that was passed over cannot hide a rule, since the
-- smaller rule that it names has a claim of its own.
use Rattle.std.proofs.Common.{◌≡◌, ℕ, zero, suc, ◌+◌, ◌<◌, ◌≤◌, ◌⊎◌, true, false, List, [], ◌∷◌, length, refl}
use Rattle.std.proofs.Common.{sym, ap, subst, arith, inl, inr, Some, slice_get, Contains, All}
use Rattle.std.proofs.lemmas.Bool.{false≢true}
use Rattle.std.proofs.lemmas.List.Elements.{All-contains, All-contains_itself}
use Rattle.bv_terms.specs.Table.{IsTable}
use Rattle.isel_spec.specs.declared.spec.Spec.{Spec}
use Rattle.isel_spec.specs.File.{File, Goal}
use Rattle.isel_spec.specs.Spec.{file}
use Rattle.list_lemmas.proofs.Members.{In, In-from_Contains, Contains-from_In}
use Rattle.multiset_rank.specs.Multisets.{AreBelow}
use Rattle.multiset_rank.specs.Claims.{Plan, claims, IsInPlan}
use Rattle.pattern_core.specs.declared.pattern.GoalAnswer.{GoalAnswer}
use Rattle.pattern_core.specs.declared.pattern.GoalAnswer.TheVariants as answer
use Rattle.pattern_core.specs.declared.pattern.Pattern.{Pattern}
use Rattle.pattern_core.specs.Claim.{Claim}
use Rattle.pattern_core.specs.Library.{IsRight, IsLibrary}
use Rattle.pattern_core.specs.Order.{multiset}
use Rattle.pattern_core.specs.Pattern.{IsWellFormed}
use Rattle.pattern_core.specs.Rule.{IsRule}
use Rattle.pattern_core.specs.Walk.{IsCanonical}
use Rattle.plain_search.proofs.GrownLemmas.{length-multiset}
use Rattle.plain_search.proofs.SieveLemmas.{operations_below, multiset_never_falls}
use Rattle.plain_search.specs.Trials.{trials_of}
use Rattle.claim_outcome.specs.declared.outcome.End.{End}
use Rattle.claim_outcome.specs.declared.outcome.End.TheVariants.{Decided, Spent, Skipped, NoMemory}
use Rattle.claim_outcome.specs.declared.outcome.Outcome.{Outcome}
use Rattle.claim_outcome.specs.declared.record.Record.{Record}
use Rattle.claim_outcome.specs.Outcome.{IsRuleOf, IsEnd, IsRight as IsRightOutcome}
use Rattle.claim_outcome.specs.Record.{IsRecord}
use Rattle.claim_outcome.specs.Units.{units_of}
use Rattle.rule_library.specs.Answer.{IsFound, IsOpen}
use Rattle.rule_library.specs.Answer.{IsAnswerWith, IsAnswerWithout, IsAnswerOf}
use Rattle.rule_library.specs.Book.{IsPlanOf, IsBook, IsEntry, is_spent, ran_out}
use Rattle.rule_library.specs.Promise.{IsUndecided, IsPromised, EnoughBudgetDecides}
use Rattle.rule_library.proofs.EntryLemmas.{some_entry, entry_in_plan}
use Rattle.rule_library.proofs.RenamedThings.{HasCanonical-from_rule}

-- ---- what is known

-- a goal of a file, and a book of right entries, none of which ended since memory ran out
pub record IsKnown (s : Spec) (p : Plan) (budget : ℕ) (book : List (ℕ × Outcome)) (place : ℕ) (g : Goal) : Type 0 where
  pub table : IsTable s.terms
  pub goal : slice_get (file s).goals place ≡ Some g
  pub below : place < p.goals
  pub plan : IsPlanOf (file s) p
  pub book_of : IsBook (length (claims p)) book
  pub right : (ops : List ℕ) (o : Outcome) → IsEntry p book place ops o
      → IsRightOutcome (record { file = file s; goal = g; ops = ops }) budget o
  pub done : (ops : List ℕ) (o : Outcome) → IsEntry p book place ops o → ran_out o.end ≡ false

abbrev claim_of : Spec → Goal → List ℕ → Claim
claim_of s g ops = record { file = file s; goal = g; ops = ops }

found_rule : (s : Spec) (p : Plan) (budget : ℕ) (book : List (ℕ × Outcome)) (place : ℕ) (g : Goal)
    → IsKnown s p budget book place g → (q : Pattern) (found : IsFound p book place q)
    → IsRuleOf (claim_of s g found.ops) q
found_rule s p budget book place g known q found =
    All-contains (IsRuleOf (claim_of s g found.ops)) found.outcome.found q
    (known.right found.ops found.outcome found.entry).rules found.among

found_within : (s : Spec) (p : Plan) (budget : ℕ) (book : List (ℕ × Outcome)) (place : ℕ) (g : Goal)
    → IsKnown s p budget book place g → (q : Pattern) → IsFound p book place q → length q.nodes ≤ p.bound
found_within s p budget book place g known q found =
    let same = ap length (found_rule s p budget book place g known q found).pattern.ops in
    let long = length-multiset q.nodes in
    let plan = (entry_in_plan p book place found.ops found.outcome found.entry).0.size_within in
    omega (arith, same, long, plan)

found_right : (s : Spec) (p : Plan) (budget : ℕ) (book : List (ℕ × Outcome)) (place : ℕ) (g : Goal)
    → IsKnown s p budget book place g → (size : ℕ) (q : Pattern) → IsFound p book place q → length q.nodes ≡ size
    → IsRight (file s) g p.bound size q
found_right s p budget book place g known size q found e =
    let rule = found_rule s p budget book place g known q found in
    let within = found_within s p budget book place g known q found in record {
      well_formed = rule.pattern.well_formed;
      canonical = rule.canonical;
      of_size = e;
      within = omega (arith, within, e);
      rule = rule.rule;
    }

-- ---- what became of a rule

-- a rule of fewer nodes
record HasSmaller (s : Spec) (g : Goal) (size : ℕ) : Type 0 where
  pub pattern : Pattern
  pub well_formed : IsWellFormed (file s) g pattern
  pub rule : IsRule (file s) g pattern
  pub smaller : length pattern.nodes < size

-- a rule is found, or its claim is open, or a smaller rule is there
abbrev IsMet : Spec → Plan → List (ℕ × Outcome) → ℕ → Goal → Pattern → Type 0
IsMet s p book place g q =
    IsFound p book place q ⊎ (IsOpen p book place (multiset q.nodes) ⊎ HasSmaller s g (length q.nodes))

met_by_end : (s : Spec) (p : Plan) (budget : ℕ) (book : List (ℕ × Outcome)) (place : ℕ) (g : Goal) (q : Pattern)
    (o : Outcome) → IsEntry p book place (multiset q.nodes) o → IsRuleOf (claim_of s g (multiset q.nodes)) q
    → (end : End) → o.end ≡ end → IsEnd (claim_of s g (multiset q.nodes)) budget o.found end → ran_out end ≡ false
    → IsMet s p book place g q
met_by_end s p budget book place g q o entry rule Decided e is done =
    inl (record { ops = multiset q.nodes; outcome = o; entry = entry; among = is q rule })
met_by_end s p budget book place g q o entry rule (Spent r) e is done =
    inr (inl (record { outcome = o; entry = entry; spent = ap is_spent e }))
met_by_end s p budget book place g q o entry rule (Skipped size) e is done =
    let long = length-multiset q.nodes in
    let less = is.1 in
    let size_of = is.2.3 in
    inr (inr (record {
      pattern = is.2.0;
      well_formed = is.2.1;
      rule = is.2.2;
      smaller = omega (arith, long, less, size_of);
    }))
met_by_end s p budget book place g q o entry rule NoMemory e is done = absurd (false≢true (sym done))

met : (s : Spec) (p : Plan) (budget : ℕ) (book : List (ℕ × Outcome)) (place : ℕ) (g : Goal)
    → IsKnown s p budget book place g → (q : Pattern) → IsWellFormed (file s) g q → IsCanonical q
    → IsRule (file s) g q → length q.nodes ≤ p.bound → IsMet s p book place g q
met s p budget book place g known q well canonical gives within =
    let ops : List ℕ = multiset q.nodes in
    let long = length-multiset q.nodes in
    let in_plan : IsInPlan p place ops = record {
      goal_below = known.below;
      size_within = omega (arith, long, within);
      kinds_below =
          subst (λ n. AreBelow n ops) (sym known.plan.kinds) (operations_below (file s) g q.nodes well.nodes);
    } in
    let there = some_entry p book place ops known.book_of in_plan (multiset_never_falls q.nodes) in
    let rule : IsRuleOf (claim_of s g ops) q = record {
      pattern = record { well_formed = well; ops = refl };
      canonical = canonical;
      rule = gives;
    } in
    met_by_end s p budget book place g q there.0 there.1 rule there.0.end refl (known.right ops there.0 there.1).end
    (known.done ops there.0 there.1)

-- a found pattern of at most this size, or an open claim
abbrev IsTold : Plan → List (ℕ × Outcome) → ℕ → ℕ → Type 0
IsTold p book place size =
    ((q : Pattern) × IsFound p book place q × (length q.nodes ≤ size))
    ⊎ ((ops : List ℕ) × IsOpen p book place ops × (length ops ≤ size))

told-wider : (p : Plan) (book : List (ℕ × Outcome)) (place small size : ℕ) → small ≤ size → IsTold p book place small
    → IsTold p book place size
told-wider p book place small size l (inl h) = let k = h.2 in inl (h.0, h.1, omega (arith, k, l))
told-wider p book place small size l (inr h) = let k = h.2 in inr (h.0, h.1, omega (arith, k, l))

-- where there is a rule, as small a one is found, or as small a claim is open
told : (s : Spec) (p : Plan) (budget : ℕ) (book : List (ℕ × Outcome)) (place : ℕ) (g : Goal)
    → IsKnown s p budget book place g → (most : ℕ) (q : Pattern) → length q.nodes < most
    → IsWellFormed (file s) g q → IsRule (file s) g q → length q.nodes ≤ p.bound
    → IsTold p book place (length q.nodes)
told s p budget book place g known zero q l well gives within = absurd (omega (arith, l))
told s p budget book place g known (suc most) q l well gives within =
    let c = HasCanonical-from_rule s place g known.table known.goal q well gives in
    let same = c.of_size in
    elim (met s p budget book place g known c.pattern c.well_formed c.canonical c.rule (omega (arith, same, within))) [
      | inl found ↦ inl (c.pattern, found, omega (arith, same))
      | inr other ↦ elim other [
        | inl is ↦ (let long = length-multiset c.pattern.nodes in
            inr (multiset c.pattern.nodes, is, omega (arith, long, same)))
        | inr r ↦ (let less = r.smaller in
            told-wider p book place (length r.pattern.nodes) (length q.nodes) (omega (arith, less, same))
            (told s p budget book place g known most r.pattern (omega (arith, less, same, l)) r.well_formed r.rule
            (omega (arith, less, same, within))))
      ]
    ]

told_of : (s : Spec) (p : Plan) (budget : ℕ) (book : List (ℕ × Outcome)) (place : ℕ) (g : Goal)
    → IsKnown s p budget book place g → (q : Pattern) → IsWellFormed (file s) g q → IsRule (file s) g q
    → length q.nodes ≤ p.bound → IsTold p book place (length q.nodes)
told_of s p budget book place g known q =
    told s p budget book place g known (length q.nodes + 1) q (omega arith)

-- ---- open claims

spent_on : (c : Claim) (budget : ℕ) (found : List Pattern) (end : End) → is_spent end ≡ true → IsEnd c budget found end
    → (r : Record) × IsRecord c found r × (units_of r ≡ budget) × (budget < trials_of c.file c.goal c.ops)
spent_on c budget found Decided e is = absurd (false≢true e)
spent_on c budget found (Spent r) e is = (r, is.0, is.1, is.2)
spent_on c budget found (Skipped size) e is = absurd (false≢true e)
spent_on c budget found NoMemory e is = absurd (false≢true e)

open_undecided : (s : Spec) (p : Plan) (budget : ℕ) (book : List (ℕ × Outcome)) (place : ℕ) (g : Goal)
    → IsKnown s p budget book place g → (ops : List ℕ) → IsOpen p book place ops
    → IsUndecided (file s) g p.bound budget ops
open_undecided s p budget book place g known ops is =
    let plan = entry_in_plan p book place ops is.outcome is.entry in
    let spent = spent_on (claim_of s g ops) budget is.outcome.found is.outcome.end is.spent
    (known.right ops is.outcome is.entry).end in record {
      within = plan.0.size_within;
      below = subst (λ n. AreBelow n ops) known.plan.kinds plan.0.kinds_below;
      order = plan.1;
      found = is.outcome.found;
      spent_on = spent.0;
      right = spent.1;
      spent = spent.2;
      short = spent.3;
    }

-- ---- the promise

-- an answer with rules has one, and each is right
with_rules : (s : Spec) (p : Plan) (budget : ℕ) (book : List (ℕ × Outcome)) (place : ℕ) (g : Goal)
    → IsKnown s p budget book place g → (size : ℕ) (rules : List Pattern) (undecided : List (List ℕ))
    → IsAnswerWith p book place size rules undecided
    → (rules ≡ [] → ⊥) × All (IsRight (file s) g p.bound size) rules
with_rules s p budget book place g known size rules undecided is = (
  λ empty.
      let listed : In rules is.least.pattern =
      In-from_Contains rules is.least.pattern
      ((is.listed.members is.least.pattern).1 (is.least.found, is.least.of_size)) in
      let nothing : In [] is.least.pattern =
      subst (λ (xs : List Pattern). In xs is.least.pattern) empty listed in
      absurd nothing,
  λ k d l. let h = (is.listed.members _).0 (All-contains_itself rules k d l) in
      found_right s p budget book place g known size _ h.0 h.1,
)

complete : (s : Spec) (p : Plan) (budget : ℕ) (book : List (ℕ × Outcome)) (place : ℕ) (g : Goal)
    → IsKnown s p budget book place g → (size : ℕ) (rules : List Pattern)
    → IsAnswerWith p book place size rules [] → IsLibrary (file s) g p.bound rules
complete s p budget book place g known size rules is =
    inr (
      size,
      within,
      record {
        pattern = is.least.pattern;
        well_formed = first.pattern.well_formed;
        rule = first.rule;
        of_size = is.least.of_size;
        least = least;
      },
      record { rising = is.listed.rising; members = λ q. (there q, back q) },
    )
  where
    first : IsRuleOf (claim_of s g is.least.found.ops) is.least.pattern
    first = found_rule s p budget book place g known is.least.pattern is.least.found

    within : size ≤ p.bound
    within =
        let most = found_within s p budget book place g known is.least.pattern is.least.found in
        let e = is.least.of_size in omega (arith, most, e)

    none_open : (ops : List ℕ) → IsOpen p book place ops → length ops ≤ size → ⊥
    none_open ops h l = absurd (In-from_Contains [] ops ((is.left.members ops).1 (h, l)))

    least : (q : Pattern) → IsWellFormed (file s) g q → length q.nodes < size → IsRule (file s) g q → ⊥
    least q well l gives =
        let w = within in
        elim (told_of s p budget book place g known q well gives (omega (arith, l, w))) [
          | inl h ↦ (let most = h.2 in
              let low = is.least.least h.0 h.1 in absurd (omega (arith, most, low, l)))
          | inr h ↦ (let most = h.2 in none_open h.0 h.1 (omega (arith, most, l)))
        ]

    there : (q : Pattern) → Contains rules q
        → IsWellFormed (file s) g q × IsCanonical q × (length q.nodes ≡ size) × IsRule (file s) g q
    there q c =
        let h = (is.listed.members q).0 c in
        let r = found_right s p budget book place g known size q h.0 h.1 in
        (r.well_formed, r.canonical, r.of_size, r.rule)

    back : (q : Pattern) → IsWellFormed (file s) g q × IsCanonical q × (length q.nodes ≡ size) × IsRule (file s) g q
        → Contains rules q
    back q h =
        let w = within in
        let e = h.2 in
        elim (met s p budget book place g known q h.0 h.1 h.3 (omega (arith, w, e))) [
          | inl found ↦ (is.listed.members q).1 (found, e)
          | inr other ↦ elim other [
            | inl o ↦ (let long = length-multiset q.nodes in
                absurd (none_open (multiset q.nodes) o (omega (arith, long, e))))
            | inr r ↦ (let less = r.smaller in
                absurd (least r.pattern r.well_formed (omega (arith, less, e)) r.rule))
          ]
        ]

nothing_there : (s : Spec) (p : Plan) (budget : ℕ) (book : List (ℕ × Outcome)) (place : ℕ) (g : Goal)
    → IsKnown s p budget book place g → IsAnswerWithout p book place [] → IsLibrary (file s) g p.bound []
nothing_there s p budget book place g known is =
    inl (
      record {
        none = λ q well within gives.
            elim (told_of s p budget book place g known q well gives within) [
              | inl h ↦ is.none h.0 h.1
              | inr h ↦ absurd (In-from_Contains [] h.0 ((is.left.members h.0).1 (h.1, tt)))
            ];
      },
      refl,
    )

pub promised : (s : Spec) (p : Plan) (budget : ℕ) (book : List (ℕ × Outcome)) (place : ℕ) (g : Goal)
    → IsKnown s p budget book place g → (a : GoalAnswer) → IsAnswerOf p book place a
    → IsPromised (file s) p.bound budget g a
promised s p budget book place g known (answer.Complete size rules) is =
    let with = with_rules s p budget book place g known size rules [] is in
    (with.0, with.1, complete s p budget book place g known size rules is)
promised s p budget book place g known (answer.Partial size rules undecided) is =
    let with = with_rules s p budget book place g known size rules undecided is.1 in (
      with.0,
      with.1,
      is.0,
      λ k d l. let h = (is.1.left.members _).0 (All-contains_itself undecided k d l) in
          record { undecided = open_undecided s p budget book place g known _ h.0; at_most = h.1 },
    )
promised s p budget book place g known answer.None is = nothing_there s p budget book place g known is
promised s p budget book place g known (answer.Stopped undecided) is = (
  is.0,
  λ k d l. let h = (is.1.left.members _).0 (All-contains_itself undecided k d l) in
      open_undecided s p budget book place g known _ h.0,
)

-- ---- a budget that decides

-- where the budget is at least the trials, no claim is undecided
none_undecided : (f : File) (g : Goal) (bound budget : ℕ) (undecided : List (List ℕ))
    → ((ops : List ℕ) → length ops ≤ bound → trials_of f g ops ≤ budget)
    → All (IsUndecided f g bound budget) undecided → undecided ≡ []
none_undecided f g bound budget [] enough all = refl
none_undecided f g bound budget (ops ∷ rest) enough all =
    let is = All-contains (IsUndecided f g bound budget) (ops ∷ rest) ops all
    (Contains-from_In (ops ∷ rest) ops (inl refl)) in
    let most = enough ops is.within in
    let short = is.short in absurd (omega (arith, most, short))

pub answer-from_promise : EnoughBudgetDecides
answer-from_promise f bound budget g (answer.Complete size rules) enough is = is
answer-from_promise f bound budget g (answer.Partial size rules undecided) enough is =
    is.2 (none_undecided f g bound budget undecided enough (λ k d l. (is.3 k d l).undecided))
answer-from_promise f bound budget g answer.None enough is = is
answer-from_promise f bound budget g (answer.Stopped undecided) enough is =
    is.0 (none_undecided f g bound budget undecided enough is.1)
