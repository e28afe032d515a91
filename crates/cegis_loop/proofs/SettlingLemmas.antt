-- What the state of a search says of the patterns that are still sought, of records of it, and of the outcome.
use Rattle.std.proofs.Common.{◌≡◌, ◌≢◌, ◌∙◌, ℕ, ◌+◌, ◌<◌, ◌≤◌, ◌⊎◌, ⊎_elim, inl, inr, List, [], ◌∷◌, ◌++◌, length, Some}
use Rattle.std.proofs.Common.{slice_get, All, Contains, get_or, refl, sym, ap, subst, arith}
use Rattle.std.specs.Prelude.{◌^◌, Bool, true, false, None, nat_lt, if◌then◌else◌}
use Rattle.std.proofs.lemmas.List.{length-append}
use Rattle.std.proofs.lemmas.List.Elements.{All-push, All-nil, All-weaker, All-contains, All-contains_itself}
use Rattle.std.proofs.lemmas.List.Elements.{Contains-append_left}
use Rattle.std.proofs.lemmas.List.Quantifiers.{all_pairs_push}
use Rattle.std.proofs.lemmas.Option.{same_Some, slice_get_within}
use Rattle.list_lemmas.proofs.Lookups.{All-one, All-slice_get, Contains-cases, Contains-first, Contains-later}
use Rattle.list_lemmas.proofs.Lookups.{Contains-slice_get, push_cases, slice_get-append_left}
use Rattle.list_lemmas.proofs.Lookups.{some_at, same-element}
use Rattle.list_lemmas.proofs.Numbers.{equal-or-not, not_less}
use Rattle.cnf_core.specs.Resolution.{AreNewClauses}
use Rattle.isel_spec.specs.File.{File, Goal}
use Rattle.isel_spec.specs.Spec.{file}
use Rattle.isel_spec.specs.declared.spec.Spec.{Spec}
use Rattle.loc_encode.specs.declared.encoded.Encoded.{Encoded}
use Rattle.loc_encode.specs.Encoded.{IsSought}
use Rattle.pattern_core.specs.Claim.{Claim, IsClaim, IsExample, IsPatternOf, Agrees}
use Rattle.pattern_core.specs.declared.pattern.Example.{Example}
use Rattle.pattern_core.specs.declared.pattern.Node.{Node}
use Rattle.pattern_core.specs.declared.pattern.Pattern.{Pattern}
use Rattle.pattern_core.specs.declared.pattern.Src.{Src}
use Rattle.pattern_core.specs.declared.pattern.Src.TheVariants.{Input, Out}
use Rattle.pattern_core.specs.Pattern.{IsWellFormed}
use Rattle.pattern_core.specs.Renaming.{IsRenaming, renamed_source, renamed_sources, renamed_node}
use Rattle.pattern_core.specs.Rule.{IsRule, IsPlainRule}
use Rattle.pattern_core.specs.Walk.{IsCanonical}
use Rattle.claim_outcome.specs.declared.outcome.End.TheVariants.{Decided}
use Rattle.claim_outcome.specs.declared.record.Asked.{Asked}
use Rattle.claim_outcome.specs.declared.record.Question.{Question}
use Rattle.claim_outcome.specs.declared.record.Question.TheVariants.{Find, Confirm}
use Rattle.claim_outcome.specs.declared.record.Record.{Record}
use Rattle.claim_outcome.specs.Outcome.{IsRuleOf, IsRight}
use Rattle.claim_outcome.specs.Record.{AgreesAtAll, AreInOrder, AreRefuted, IsAskedRight, IsFound, IsOpen, IsRecord}
use Rattle.claim_outcome.specs.Record.{IsRefutedAt}
use Rattle.claim_outcome.specs.Units.{units_of}
use Rattle.plain_search.specs.Rules.{AreRulesOf}
use Rattle.plain_search.specs.Trials.{in_64_bits}
use Rattle.cegis_loop.specs.Answer.{IsAnswer, IsCall}
use Rattle.cegis_loop.specs.declared.answer.Confirm.TheVariants as confirm
use Rattle.cegis_loop.specs.declared.answer.Tried.{Tried}
use Rattle.cegis_loop.specs.Finder.{IsFindCall}
use Rattle.cegis_loop.specs.Search.{IsListed, IsProgress, IsSearching, asked_of}
use Rattle.cegis_loop.specs.Trial.{AreCasesOf}
use Rattle.cegis_loop.specs.declared.finder.Finder.{Finder}
use Rattle.cegis_loop.specs.declared.search.Search.{Search}
use Rattle.cegis_loop.specs.declared.trial.TestCases.{TestCases}

-- ---- equal or not

decided-by : {A B : Type 0} → (A → B) → (B → A) → A ⊎ (A → ⊥) → B ⊎ (B → ⊥)
decided-by f g (inl a) = inl (f a)
decided-by f g (inr none) = inr (λ b. none (g b))

both-or-not : {A B : Type 0} → A ⊎ (A → ⊥) → B ⊎ (B → ⊥) → (A × B) ⊎ (A × B → ⊥)
both-or-not (inl a) (inl b) = inl (a, b)
both-or-not (inl a) (inr none) = inr (λ h. none h.1)
both-or-not (inr none) b = inr (λ h. none h.0)

lists-or-not : {A : Type 0} → ((x y : A) → (x ≡ y) ⊎ (x ≡ y → ⊥)) → (xs ys : List A) → (xs ≡ ys) ⊎ (xs ≡ ys → ⊥)
lists-or-not each [] [] = inl refl
lists-or-not each [] (y ∷ ys) = inr (λ e. absurd (cc))
lists-or-not each (x ∷ xs) [] = inr (λ e. absurd (cc))
lists-or-not each (x ∷ xs) (y ∷ ys) =
    decided-by {A = (x ≡ y) × (xs ≡ ys)} {B = x ∷ xs ≡ y ∷ ys} (λ h i. h.0 i ∷ h.1 i)
    (λ e. let first : x ≡ y = cc in let rest : xs ≡ ys = cc in (first, rest))
    (both-or-not (each x y) (lists-or-not each xs ys))

source-or-not : (s t : Src) → (s ≡ t) ⊎ (s ≡ t → ⊥)
source-or-not (Input i) (Input k) =
    decided-by {A = i ≡ k} {B = Input i ≡ Input k} (λ e. ap Input e) (λ e. let same : i ≡ k = cc in same)
    (equal-or-not i k)
source-or-not (Input i) (Out n r) = inr (λ e. absurd (cc))
source-or-not (Out m q) (Input k) = inr (λ e. absurd (cc))
source-or-not (Out m q) (Out n r) =
    decided-by {A = (m ≡ n) × (q ≡ r)} {B = Out m q ≡ Out n r} (λ h i. Out (h.0 i) (h.1 i))
    (λ e. let node : m ≡ n = cc in let result : q ≡ r = cc in (node, result))
    (both-or-not (equal-or-not m n) (equal-or-not q r))

-- nodes of one operation, or not
over-or-not : (m n : Node) → ((m.attrs ≡ n.attrs) × (m.args ≡ n.args)) ⊎ ((m.attrs ≡ n.attrs) × (m.args ≡ n.args) → ⊥)
over-or-not m n =
    both-or-not (lists-or-not equal-or-not m.attrs n.attrs) (lists-or-not source-or-not m.args n.args)

node-or-not : (m n : Node) → (m ≡ n) ⊎ (m ≡ n → ⊥)
node-or-not m n = by (equal-or-not m.op n.op) (over-or-not m n)
  where
    by : (m.op ≡ n.op) ⊎ (m.op ≡ n.op → ⊥)
        → ((m.attrs ≡ n.attrs) × (m.args ≡ n.args)) ⊎ ((m.attrs ≡ n.attrs) × (m.args ≡ n.args) → ⊥)
        → (m ≡ n) ⊎ (m ≡ n → ⊥)
    by (inl op) (inl over) = inl (λ i. record { op = op i; attrs = over.0 i; args = over.1 i })
    by (inl op) (inr none) = inr (λ e. none (ap (λ (k : Node). k.attrs) e, ap (λ (k : Node). k.args) e))
    by (inr none) over = inr (λ e. none (ap (λ (k : Node). k.op) e))

pattern-or-not : (p q : Pattern) → (p ≡ q) ⊎ (p ≡ q → ⊥)
pattern-or-not p q =
    decided-by {A = (p.nodes ≡ q.nodes) × (p.results ≡ q.results)} {B = p ≡ q}
    (λ h i. record { nodes = h.0 i; results = h.1 i })
    (λ e. (ap (λ (k : Pattern). k.nodes) e, ap (λ (k : Pattern). k.results) e))
    (both-or-not (lists-or-not node-or-not p.nodes q.nodes) (lists-or-not source-or-not p.results q.results))

there-or-not : (ps : List Pattern) (p : Pattern) → Contains ps p ⊎ (Contains ps p → ⊥)
there-or-not [] p = inr (λ h. absurd (omega (arith, h.1)))
there-or-not (q ∷ ps) p = by (pattern-or-not q p) (there-or-not ps p)
  where
    by : (q ≡ p) ⊎ (q ≡ p → ⊥) → Contains ps p ⊎ (Contains ps p → ⊥)
        → Contains (q ∷ ps) p ⊎ (Contains (q ∷ ps) p → ⊥)
    by (inl same) later = inl (subst (Contains (q ∷ ps)) same (Contains-first q ps))
    by (inr differ) (inl later) = inl (Contains-later q p ps later)
    by (inr differ) (inr none) = inr (λ h. ⊎_elim differ none (Contains-cases q p ps h))

-- ---- a pattern is its own renaming

source-itself : (s : Src) → renamed_source (λ k. k) s ≡ s
source-itself (Input k) = refl
source-itself (Out node result) = refl

sources-itself : (ss : List Src) → renamed_sources (λ k. k) ss ≡ ss
sources-itself [] = refl
sources-itself (s ∷ ss) = λ i. source-itself s i ∷ sources-itself ss i

node-itself : (n : Node) → renamed_node (λ k. k) n ≡ n
node-itself n = λ i. record n { args = sources-itself n.args i }

renaming-itself : (p : Pattern) → IsRenaming p p
renaming-itself p = record {
  to = λ k. k;
  from = λ k. k;
  size = refl;
  within = λ k l. l;
  back = λ k l. refl;
  from_within = λ k l. l;
  forth = λ k l. refl;
  nodes = λ k n at. at ∙ ap Some (sym (node-itself n));
  results = sym (sources-itself p.results);
}

-- ---- candidates

abbrev record_of : List Example → List Pattern → List Asked → Record
record_of xs ps calls = record { examples = xs; candidates = ps; calls = calls }

-- a candidate that agrees at all examples isn't one that they refute
agreeing-stays : (c : Claim) (r : Record) (numbers : List ℕ) → AreRefuted c r numbers → (k : ℕ) (p : Pattern)
    → slice_get r.candidates k ≡ Some p → AgreesAtAll c r.examples p → ¬ Contains numbers k
agreeing-stays c r numbers h k p at agrees there =
    let place = Contains-slice_get numbers k there in
    let within : place.0 < length r.examples =
    subst (λ n. place.0 < n) h.as_many (slice_get_within numbers place.0 k place.1) in
    let x = some_at r.examples place.0 within in
    let refuted : IsRefutedAt c r.candidates k x.0 = h.each place.0 k x.0 place.1 x.1 in
    refuted.differs
    (subst (λ (q : Pattern). Agrees c q x.0.inputs) (same_Some p refuted.candidate (sym at ∙ refuted.stands))
    (All-slice_get (λ (y : Example). Agrees c p y.inputs) r.examples place.0 x.0 agrees x.1))

-- what is sought is a new candidate
pub sought-open : (c : Claim) (e : Encoded) (ps listed : List Pattern) (p : Pattern)
    → IsProgress c e.examples e.blocked ps listed → IsSought c e p → IsOpen c e.examples ps p
sought-open c e ps listed p h sought = record {
  pattern = sought.pattern;
  agrees = sought.agrees;
  new = λ there.
      let place = Contains-slice_get ps p there in
      ⊎_elim
      (agreeing-stays c (record_of e.examples ps []) h.refuted.0 h.refuted.1 place.0 p place.1 sought.agrees)
      sought.unblocked (h.refuted.2 place.0 p place.1);
}

-- and every new candidate is sought
pub open-sought : (c : Claim) (e : Encoded) (ps listed : List Pattern) (p : Pattern)
    → IsProgress c e.examples e.blocked ps listed → IsOpen c e.examples ps p → IsSought c e p
open-sought c e ps listed p h is = record {
  pattern = is.pattern;
  agrees = is.agrees;
  unblocked = λ blocked. is.new (All-contains (Contains ps) e.blocked p h.blocked blocked);
}

-- ---- records

found-listed : (listed : List Pattern) (p : Pattern) → IsListed listed p → IsFound listed p
found-listed listed p is = (is.canonical, is.stands, is.is_canonical, is.renaming)

-- each candidate of a search is refuted or found
refuted-or-found : (c : Claim) (xs : List Example) (blocks ps listed : List Pattern)
    (h : IsProgress c xs blocks ps listed) (k : ℕ) (p : Pattern) → slice_get ps k ≡ Some p
    → Contains h.refuted.0 k ⊎ IsFound listed p
refuted-or-found c xs blocks ps listed h k p at =
    ⊎_elim (λ refuted. inl refuted)
    (λ blocked. inr (found-listed listed p (All-contains (IsListed listed) blocks p h.blocked_found blocked)))
    (h.refuted.2 k p at)

-- the record of a search between its steps, with at most one call
progress-record : (c : Claim) (xs : List Example) (blocks ps listed : List Pattern) (calls : List Asked)
    → IsProgress c xs blocks ps listed → length calls ≤ 1 → AreInOrder ps calls
    → All (λ (a : Asked). IsAskedRight c (record_of xs ps calls) a a.question) calls
    → All (λ (a : Asked). AreNewClauses a.blasted.cnf.clauses a.log.chains) calls
    → IsRecord c listed (record_of xs ps calls)
progress-record c xs blocks ps listed calls h few order right new = record {
  candidates = h.candidates;
  differ = h.differ;
  examples = h.examples;
  refuted = (
    h.refuted.0,
    record {
      rising = h.refuted.1.rising;
      as_many = h.refuted.1.as_many;
      each = h.refuted.1.each;
      others = h.refuted.1.others;
    },
    λ k p l at. refuted-or-found c xs blocks ps listed h k p at,
  );
  found = h.found;
  order = order;
  right = right;
  new = new;
  accepted = λ k a l at. absurd (omega arith);
}

pub record-without_calls : (c : Claim) (xs : List Example) (blocks ps listed : List Pattern)
    → IsProgress c xs blocks ps listed → IsRecord c listed (record_of xs ps [])
record-without_calls c xs blocks ps listed h =
    progress-record c xs blocks ps listed [] h (omega arith) tt (All-nil _) (All-nil _)

-- the units were spent on a call for the next candidate
pub record-with_find : (c : Claim) (e : Encoded) (ps listed : List Pattern) (units : ℕ) (t : Tried)
    → IsProgress c e.examples e.blocked ps listed → IsFindCall c e units t
    → IsRecord c listed (record_of e.examples ps (asked_of (Find (length e.examples) (length ps)) t ∷ []))
record-with_find c e ps listed units t h call =
    let asked : Asked = asked_of (Find (length e.examples) (length ps)) t in
    let r : Record = record_of e.examples ps (asked ∷ []) in
    progress-record c e.examples e.blocked ps listed (asked ∷ []) h (omega arith) refl
    (All-one (λ (a : Asked). IsAskedRight c r a a.question) asked (
      refl,
      refl,
      λ model. let p = call.sound model in (p.0, sought-open c e ps listed p.0 h p.1),
      λ p is canonical. call.complete p (open-sought c e ps listed p h is) canonical,
    ))
    (All-one (λ (a : Asked). AreNewClauses a.blasted.cnf.clauses a.log.chains) asked call.new)

module _ (c : Claim) (xs : List Example) (blocks ps listed : List Pattern) (h : IsProgress c xs blocks ps listed)
    (p : Pattern) (is : IsOpen c xs ps p) where
  pending-differs : (k : ℕ) (d : Pattern) → k < length ps → get_or ps k d ≢ p
  pending-differs k d l same = is.new (k, l, same-element ps k p d l ∙ same)

  -- the numbers of those that are refuted
  numbers : List ℕ
  numbers = h.refuted.0

  pending-refuted : (j number : ℕ) (x : Example) → slice_get numbers j ≡ Some number → slice_get xs j ≡ Some x
      → IsRefutedAt c (ps ++ p ∷ []) number x
  unfolding numbers
  pending-refuted j number x here at =
      let r : IsRefutedAt c ps number x = h.refuted.1.each j number x here at in
      record {
        candidate = r.candidate;
        stands = slice_get-append_left ps (p ∷ []) number (slice_get_within ps number r.candidate r.stands) ∙ r.stands;
        differs = r.differs;
        later = λ k q l there.
            ⊎_elim (λ w. r.later k q l w.1)
            (λ w. subst (λ (u : Pattern). Agrees c u x.inputs) w.1
            (All-slice_get (λ (y : Example). Agrees c p y.inputs) xs j x is.agrees at)) (push_cases ps p k q there);
      }

  pending-agrees : (k : ℕ) (q : Pattern) → slice_get (ps ++ p ∷ []) k ≡ Some q → ¬ Contains numbers k
      → AgreesAtAll c xs q
  unfolding numbers
  pending-agrees k q at none =
      ⊎_elim (λ w. h.refuted.1.others k q w.1 none) (λ w. subst (AgreesAtAll c xs) w.1 is.agrees)
      (push_cases ps p k q at)

  pending-before : (k : ℕ) (q : Pattern) → k + 1 < length (ps ++ p ∷ []) → slice_get (ps ++ p ∷ []) k ≡ Some q
      → Contains numbers k ⊎ IsFound listed q
  unfolding numbers
  pending-before k q l at =
      ⊎_elim (λ w. refuted-or-found c xs blocks ps listed h k q w.1)
      (λ w. absurd (omega (arith, l, w.0, length-append ps (p ∷ [])))) (push_cases ps p k q at)

  -- the units were spent on the question whether a new candidate is a rule
  pub record-with_confirm : (units : ℕ) (t : Tried) → IsCall c p units t
      → IsRecord c listed (record_of xs (ps ++ p ∷ []) (asked_of (Confirm p) t ∷ []))
  unfolding numbers
  record-with_confirm units t call =
      let asked : Asked = asked_of (Confirm p) t in
      let r : Record = record_of xs (ps ++ p ∷ []) (asked ∷ []) in
      record {
        candidates = All-push (IsPatternOf c) ps p h.candidates is.pattern;
        differ = all_pairs_push (λ p q. p ≢ q) ps p h.differ pending-differs;
        examples = h.examples;
        refuted = (
          numbers,
          record {
            rising = h.refuted.1.rising;
            as_many = h.refuted.1.as_many;
            each = pending-refuted;
            others = pending-agrees;
          },
          pending-before,
        );
        found = λ q there.
            let w = h.found q there in
            (w.0, Contains-append_left ps (p ∷ []) w.0 w.1, w.2);
        order = (ps, [], refl, tt);
        right = All-one (λ (a : Asked). IsAskedRight c r a a.question) asked call.models;
        new = All-one (λ (a : Asked). AreNewClauses a.blasted.cnf.clauses a.log.chains) asked call.new;
        accepted = λ k a l at. absurd (omega arith);
      }

-- ---- outcomes

-- a canonical rule that isn't found is sought
pub all-found : (c : Claim) (e : Encoded) (ps listed : List Pattern) → IsProgress c e.examples e.blocked ps listed
    → ((p : Pattern) → IsWellFormed c.file c.goal p → IsRule c.file c.goal p → IsPlainRule c.file c.goal p)
    → ((p : Pattern) → IsSought c e p → IsCanonical p → ⊥) → (p : Pattern) → IsRuleOf c p → Contains listed p
all-found c e ps listed h plain none p is = by (there-or-not e.blocked p)
  where
    agrees : AgreesAtAll c e.examples p
    agrees = All-weaker (IsExample c) (λ (x : Example). Agrees c p x.inputs)
        (λ x sorts. plain p is.pattern.well_formed is.rule x.inputs sorts) e.examples h.examples

    by : Contains e.blocked p ⊎ (Contains e.blocked p → ⊥) → Contains listed p
    by (inl there) =
        let l : IsListed listed p = All-contains (IsListed listed) e.blocked p h.blocked_found there in
        subst (Contains listed) (sym (l.only p (renaming-itself p) is.canonical)) l.stands
    by (inr unblocked) =
        absurd (none p (record { pattern = is.pattern; agrees = agrees; unblocked = unblocked }) is.canonical)

pub right-where_decided : (c : Claim) (budget : ℕ) (e : Encoded) (ps listed : List Pattern)
    → IsProgress c e.examples e.blocked ps listed
    → ((p : Pattern) → IsWellFormed c.file c.goal p → IsRule c.file c.goal p → IsPlainRule c.file c.goal p)
    → ((p : Pattern) → IsSought c e p → IsCanonical p → ⊥)
    → IsRight c budget (record { found = listed; end = Decided })
right-where_decided c budget e ps listed h plain none =
    record { rules = h.rules; rising = h.rising; end = all-found c e ps listed h plain none }

-- what plain search lists
pub right-where_listed : (c : Claim) (budget : ℕ) (rules : List Pattern) → AreRulesOf c.file c.goal c.ops rules
    → IsRight c budget (record { found = rules; end = Decided })
right-where_listed c budget rules h = record {
  rules = All-weaker (Contains rules) (IsRuleOf c)
      (λ p there. let is = (h.members p).0 there in
      record { pattern = record { well_formed = is.0; ops = is.2 }; canonical = is.1; rule = is.3 }) rules
      (All-contains_itself rules);
  rising = h.rising;
  end = λ p is. (h.members p).1 (is.pattern.well_formed, is.canonical, is.pattern.ops, is.rule);
}

-- a claim without patterns
pub right-without_patterns : (c : Claim) (budget : ℕ) → ((p : Pattern) → ¬ IsPatternOf c p)
    → IsRight c budget (record { found = []; end = Decided })
right-without_patterns c budget none =
    record { rules = All-nil (IsRuleOf c); rising = tt; end = λ p is. absurd (none p is.pattern) }

-- what holds of the goal in a place of the file, with operations, holds of its claims
pub of-claim : (P : File → Goal → List ℕ → Type 0) (s : Spec) (place : ℕ) (ops : List ℕ) (c : Claim)
    → IsClaim s place ops c → ((g : Goal) → slice_get (file s).goals place ≡ Some g → P (file s) g ops)
    → P c.file c.goal c.ops
of-claim P s place ops c is holds =
    subst (λ (f : File). P f c.goal c.ops) (sym is.of_file)
    (subst (P (file s) c.goal) (sym is.of_ops) (holds c.goal is.of_goal))

-- a budget is below the number of trials where it is below the number that was counted, or that has more than 64 bits
pub below-count : (n budget count : ℕ) → Some count ≡ in_64_bits n → budget < count → budget < n
below-count n budget count e less = by (nat_lt n (2 ^ 64)) e
  where
    by : (b : Bool) → Some count ≡ (if b then Some n else None) → budget < n
    by true same = let equal : count ≡ n = same_Some count n same in omega arith
    by false none = absurd (cc)

pub below-many : (n budget : ℕ) → None ≡ in_64_bits n → budget < 2 ^ 64 → budget < n
below-many n budget e small = by (nat_lt n (2 ^ 64)) refl e
  where
    by : (b : Bool) → nat_lt n (2 ^ 64) ≡ b → None ≡ (if b then Some n else None) → budget < n
    by true less none = absurd (cc)
    by false many none = let least : 2 ^ 64 ≤ n = not_less n (2 ^ 64) many in omega arith

-- ---- the last call

-- the call that was kept is the only one, and all units that were left were spent on it
pub units-of_one : (xs : List Example) (ps : List Pattern) (q : Question) (t : Tried) (calls : List Asked)
    (units budget : ℕ) → calls ≡ asked_of q t ∷ [] → length t.log.chains ≡ units → length ps + units ≡ budget
    → units_of (record_of xs ps calls) ≡ budget
units-of_one xs ps q t calls units budget same count whole =
    ap (λ (cs : List Asked). units_of (record_of xs ps cs)) same ∙ omega (arith, count, whole)

pub kept-find : (c : Claim) (e : Encoded) (ps listed : List Pattern) (units number count : ℕ) (t : Tried)
    (calls : List Asked) → IsProgress c e.examples e.blocked ps listed → IsFindCall c e units t
    → number ≡ length e.examples → count ≡ length ps → calls ≡ asked_of (Find number count) t ∷ []
    → IsRecord c listed (record_of e.examples ps calls)
kept-find c e ps listed units number count t calls h call of_number of_count same =
    let question : Find number count ≡ Find (length e.examples) (length ps) =
    λ i. Find (of_number i) (of_count i) in
    subst (λ (cs : List Asked). IsRecord c listed (record_of e.examples ps cs))
    (sym (same ∙ ap (λ (q : Question). asked_of q t ∷ []) question)) (record-with_find c e ps listed units t h call)

pub kept-confirm : (c : Claim) (xs : List Example) (blocks ps listed : List Pattern) (units : ℕ) (p copy : Pattern)
    (t : Tried) (calls : List Asked) (more : List Pattern) → IsProgress c xs blocks ps listed → IsOpen c xs ps p
    → IsCall c p units t → copy ≡ p → calls ≡ asked_of (Confirm copy) t ∷ [] → more ≡ ps ++ p ∷ []
    → IsRecord c listed (record_of xs more calls)
kept-confirm c xs blocks ps listed units p copy t calls more h is call of_copy same longer =
    subst (λ (qs : List Pattern). IsRecord c listed (record_of xs qs calls)) (sym longer)
    (subst (λ (cs : List Asked). IsRecord c listed (record_of xs (ps ++ p ∷ []) cs))
    (sym (same ∙ ap (λ (q : Pattern). asked_of (Confirm q) t ∷ []) of_copy))
    (record-with_confirm c xs blocks ps listed h p is units t call))

-- ---- between steps

-- the call of an answer that no fuel is left
pub call-of_spent : (c : Claim) (p : Pattern) (units : ℕ) (calls : List Tried) (t : Tried)
    → IsAnswer c p units 0 (confirm.Spent calls) → calls ≡ t ∷ [] → IsCall c p units t
call-of_spent c p units calls t h same =
    subst (IsCall c p units) (ap (λ (ts : List Tried). get_or ts 0 t) (sym h.2.1 ∙ same)) h.2.2

-- what holds under two names of a goal and of its operations
pub under-names : (P : ℕ → List ℕ → Type 0) (goal place : ℕ) (multi ops : List ℕ) → goal ≡ place → multi ≡ ops
    → P place ops → P goal multi
under-names P goal place multi ops e o h = subst (λ g. P g multi) (sym e) (subst (P place) (sym o) h)

-- test cases are one thing of the state by themselves
pub searching-with_tests : (s : Spec) (place : ℕ) (ops : List ℕ) (t : Search) (tests : TestCases)
    → IsSearching s place ops t → (xs : List Example) × AreCasesOf s place xs tests
    → IsSearching s place ops (record t { tests = tests })
searching-with_tests s place ops t tests h cases =
    record { finder = h.finder; tests = cases; progress = h.progress }

-- a call for the next candidate changes nothing
pub searching-with_finder : (s : Spec) (place : ℕ) (ops : List ℕ) (t : Search) (finder : Finder)
    → IsSearching s place ops t → finder ≡ t.finder → IsSearching s place ops (record t { finder = finder })
searching-with_finder s place ops t finder h same =
    subst (λ (n : Finder). IsSearching s place ops (record t { finder = n })) (sym same) h
