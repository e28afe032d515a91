-- The walk over the items of a written library claims what the answers say.
use Rattle.std.proofs.Common.{◌≡◌, ◌∙◌, ℕ, ◌+◌, ◌<◌, ◌≤◌, inl, inr, Bool, false, List, [], ◌∷◌, ◌++◌, length}
use Rattle.std.proofs.Common.{Ok, Err, refl, sym, ap, subst, arith, append_assoc, eqb, ◌||◌, if◌then◌else◌}
use Rattle.std.proofs.Common.{Contains, codes, map}
use Rattle.std.specs.List.{list_any, flat_map}
use Rattle.std.proofs.lemmas.Bool.Decides.{nat_tests}
use Rattle.std.proofs.lemmas.List.{length-append}
use Rattle.std.proofs.lemmas.List.Folds.{list_any-append}
use Rattle.std.proofs.lemmas.List.Sums.{sum_by-append, sum_by-cons}
use Rattle.list_lemmas.proofs.Bools.{lt-true}
use Rattle.list_lemmas.proofs.Lists.{Each, append-nothing}
use Rattle.list_lemmas.proofs.Members.{In, In-from_Contains, In-append_cases}
use Rattle.list_lemmas.proofs.Orders.{IsOrdered}
use Rattle.sexp_read.specs.Tree.{Tree, from_of}
use Rattle.isel_spec.specs.File.{File, Goal}
use Rattle.pattern_core.specs.declared.pattern.Pattern.{Pattern}
use Rattle.pattern_core.specs.declared.pattern.GoalAnswer.{GoalAnswer}
use Rattle.pattern_core.specs.Pattern.{Pairwise}
use Rattle.pattern_core.specs.Walk.{IsCanonical}
use Rattle.pattern_text.specs.declared.fault.LibKind.TheVariants as fault
use Rattle.pattern_text.specs.declared.claimed.Claimed.{Claimed}
use Rattle.pattern_text.specs.Text.{rule_text, answer_text, answers_text, library_text}
use Rattle.pattern_text.specs.Steps.{span_of, fault_at, and_then, or_fault}
use Rattle.pattern_text.specs.Rules.{form_read, rule_read, IsPatternOf, IsVerdict, IsRule, AreRules}
use Rattle.pattern_text.specs.Rules.{opens_read, goal_read}
use Rattle.pattern_text.specs.Reading.{size_of, rule_count, new_goal, claim_read, claimed, IsClaim, AreClaims}
use Rattle.pattern_text.specs.RoundTrip.{state_of, rules_of, undecided_of, rule_total, IsPlaceOf, Says}
use Rattle.pattern_text.specs.RoundTrip.{SayTheSame}
use Rattle.pattern_text.proofs.WrittenRules.{RuleReads, OpenReads}
use Rattle.pattern_text.proofs.WrittenAnswers.{RulesAt, AnswerOf, AnswerIn, AnswersRead}

-- ---- the rules of a goal

-- a rule of the goal at a place
pub record IsRuleOf (f : File) (place size : ℕ) (p : Pattern) : Type 0 where
  pub pattern : IsPatternOf f place size p
  pub canonical : IsCanonical p

-- none of these patterns is one of the others
abbrev AreNew : List Pattern → List Pattern → Type 0
AreNew earlier rules = (p q : Pattern) → In earlier p → In rules q → p ≡ q → ⊥

abbrev pub AreDistinct : List Pattern → Type 0
AreDistinct rules = IsOrdered (λ p q. p ≡ q → ⊥) rules

still-new : (earlier : List Pattern) (p : Pattern) (ps : List Pattern) → AreNew earlier (p ∷ ps)
    → AreDistinct (p ∷ ps) → AreNew (earlier ++ p ∷ []) ps
still-new earlier p ps new distinct x y i j e =
    elim (In-append_cases earlier (p ∷ []) x i) [
      | inl before ↦ new x y before (inr j) e
      | inr last ↦ elim last [
        | inl same ↦ distinct.0 y j (same ∙ e)
        | inr none ↦ none
      ]
    ]

verdict : (f : File) (place size : ℕ) (earlier : List Pattern) (span : ℕ × ℕ) (p : Pattern) → IsRuleOf f place size p
    → (¬ Contains earlier p) → IsVerdict f place size earlier span p (Ok p)
verdict f place size earlier span p is new = inl (is.pattern, inl (is.canonical, inl (new, refl)))

rule-is : (f : File) (place size before : ℕ) (earlier : List Pattern) (tree : Tree) (p : Pattern) → before < 65536
    → RuleReads f p tree → IsRuleOf f place size p → (¬ Contains earlier p)
    → IsRule f place size before earlier tree (Ok p)
rule-is f place size before earlier tree p few reads is new =
    let read : rule_read f before tree ≡ Ok p =
    ap (λ b. if b then form_read f tree else Err (fault_at fault.Limit (span_of tree))) (lt-true before 65536 few)
    ∙ reads.read in
    inl (p, sym read, verdict f place size earlier (span_of tree) p is new)

rules-are : (f : File) (place size before : ℕ) (earlier rules : List Pattern) (trees : List Tree)
    → Pairwise (RuleReads f) rules trees → Each (IsRuleOf f place size) rules → AreNew earlier rules → AreDistinct rules
    → before + length earlier + length rules ≤ 65536
    → AreRules f place size before earlier trees (Ok (earlier ++ rules))
rules-are f place size before earlier [] [] h is new distinct few = ap Ok (append-nothing earlier)
rules-are f place size before earlier [] (t ∷ ts) h is new distinct few = absurd h
rules-are f place size before earlier (p ∷ ps) [] h is new distinct few = absurd h
rules-are f place size before earlier (p ∷ ps) (t ∷ ts) h is new distinct few =
    let long : length (earlier ++ p ∷ []) ≡ length earlier + 1 = length-append earlier (p ∷ []) in
    let one : length (p ∷ ps) ≡ length ps + 1 = omega arith in
    inl (
      p,
      rule-is f place size (before + length earlier) earlier t p (omega (arith, few, one)) h.0 is.0
          (λ c. new p p (In-from_Contains earlier p c) (inl refl) refl),
      subst (λ ps. AreRules f place size before (earlier ++ p ∷ []) ts (Ok ps)) (append_assoc earlier (p ∷ []) ps)
          (rules-are f place size before (earlier ++ p ∷ []) ps ts h.1 is.1 (still-new earlier p ps new distinct)
          distinct.1
          (omega (arith, few, one, long))),
    )

-- ---- open claims

opens-are : (f : File) (multis : List (List ℕ)) (trees : List Tree) → Pairwise (OpenReads f) multis trees
    → opens_read f trees ≡ Ok multis
opens-are f [] [] h = refl
opens-are f [] (t ∷ ts) h = absurd h
opens-are f (m ∷ ms) [] h = absurd h
opens-are f (m ∷ ms) (t ∷ ts) h =
    let rest : opens_read f ts ≡ Ok ms = opens-are f ms ts h.1 in
    λ i. and_then (h.0.read i) (λ multi. and_then (rest i) (λ multis. Ok (multi ∷ multis)))

-- ---- a claim

-- an answer whose rules are those of the goal at a place, no two of them equal
pub record IsAnswerAt (f : File) (place : ℕ) (a : GoalAnswer) : Type 0 where
  pub rules : Each (IsRuleOf f place (size_of (state_of a))) (rules_of a)
  pub distinct : AreDistinct (rules_of a)

-- no claim is on this goal or a later one
abbrev AreBefore : ℕ → List Claimed → Type 0
AreBefore place claims = (n : ℕ) → place ≤ n → list_any (λ (c : Claimed). eqb c.goal n) claims ≡ false

still-before : (place : ℕ) (claims : List Claimed) (claim : Claimed) → AreBefore place claims → claim.goal ≡ place
    → AreBefore (place + 1) (claims ++ claim ∷ [])
still-before place claims claim before at n l =
    let on : Claimed → Bool = λ (c : Claimed). eqb c.goal n in
    let other : eqb place n ≡ false = apart place n l in
    list_any-append on claims (claim ∷ []) ∙ ap (λ b. b || (eqb claim.goal n || false)) (before n (omega (arith, l)))
    ∙ ap (λ m. eqb m n || false) at ∙ ap (λ b. b || false) other
  where
    apart : (place n : ℕ) → place + 1 ≤ n → eqb place n ≡ false
    apart place n l = grind (arith, nat_tests)

-- the places of rules whose lines stand in the bytes
places-stand : (f : File) (bytes : List ℕ) (rules : List Pattern) (trees : List Tree) (first : ℕ) (front back : List ℕ)
    → RulesAt f rules first trees → bytes ≡ front ++ (flat_map (rule_text f) rules ++ back) → first ≡ length front
    → Pairwise (IsPlaceOf f bytes) rules (map from_of trees)
places-stand f bytes [] [] first front back h e at = tt
places-stand f bytes [] (t ∷ ts) first front back h e at = absurd h
places-stand f bytes (p ∷ ps) [] first front back h e at = absurd h
places-stand f bytes (p ∷ ps) (t ∷ ts) first front back h e at =
    let line : List ℕ = rule_text f p in
    let rest : List ℕ = flat_map (rule_text f) ps in
    let long : length (front ++ line) ≡ length front + length line = length-append front line in
    let here : bytes ≡ front ++ (line ++ (rest ++ back)) =
    e ∙ ap (λ bs. front ++ bs) (append_assoc line rest back) in (
      (front, rest ++ back, here, h.0.from ∙ ap (λ n. n + 1) at),
      places-stand f bytes ps ts (first + length line) (front ++ line) back h.1
          (here ∙ sym (append_assoc front line (rest ++ back))) (omega (arith, at, long)),
    )

regrouped : (b0 b1 r a1 rest : List ℕ)
    → b0 ++ ((b1 ++ (r ++ a1)) ++ rest) ≡ (b0 ++ b1) ++ (r ++ (a1 ++ rest))
regrouped b0 b1 r a1 rest =
    ap (λ bs. b0 ++ bs) (append_assoc b1 (r ++ a1) rest ∙ ap (λ bs. b1 ++ bs) (append_assoc r a1 rest))
    ∙ sym (append_assoc b0 b1 (r ++ (a1 ++ rest)))

-- the places of an answer's rules, where the answer's text stands in the bytes
rules-stand : (f : File) (bytes : List ℕ) (name : List ℕ) (place start : ℕ) (a : GoalAnswer) (tree : Tree)
    (before after : List ℕ) (r : AnswerIn f place name a start tree)
    → bytes ≡ before ++ (answer_text f name a ++ after) → start ≡ length before
    → Pairwise (IsPlaceOf f bytes) (rules_of a) (map from_of r.reads.form.rules)
rules-stand f bytes name place start a tree before after r e at =
    let has = r.rules in
    let long : length (before ++ has.before) ≡ length before + length has.before = length-append before has.before in
    let first : r.first ≡ start + length has.before = has.place in
    places-stand f bytes (rules_of a) r.reads.form.rules r.first (before ++ has.before) (has.after ++ after)
    r.reads.placed
    (e ∙ ap (λ bs. before ++ (bs ++ after)) has.whole
    ∙ regrouped before has.before (flat_map (rule_text f) (rules_of a)) has.after after)
    (omega (arith, at, long, first))

abbrev claim-of : (f : File) (place : ℕ) (a : GoalAnswer) (first : ℕ) (tree : Tree) → AnswerOf f place a first tree
    → Claimed
claim-of f place a first tree reads = claimed reads.form place (rules_of a) (undecided_of a)

says : (f : File) (bytes : List ℕ) (name : List ℕ) (place start : ℕ) (a : GoalAnswer) (tree : Tree)
    (before after : List ℕ) (r : AnswerIn f place name a start tree)
    → bytes ≡ before ++ (answer_text f name a ++ after) → start ≡ length before
    → Says f bytes place a (claim-of f place a r.first tree r.reads)
says f bytes name place start a tree before after r e at = record {
  goal = refl;
  state = r.reads.state;
  rules = refl;
  undecided = refl;
  places = rules-stand f bytes name place start a tree before after r e at;
}

claim-formed : (f : File) (claims : List Claimed) (place : ℕ) (a : GoalAnswer) (first : ℕ) (tree : Tree)
    (reads : AnswerOf f place a first tree) → AreBefore place claims → claim_read f claims tree ≡ Ok (reads.form, place)
claim-formed f claims place a first tree reads before =
    let fresh : new_goal claims (span_of tree) place ≡ Ok place =
    ap (λ b. if b then Err (fault_at fault.Twice (span_of tree)) else Ok place) (before place (omega arith)) in
    ap (λ o. and_then (or_fault fault.Shape (span_of tree) o)
    (λ form. and_then (and_then (goal_read f form.name) (new_goal claims (span_of tree))) (λ place. Ok (form, place))))
    reads.formed
    ∙ ap (λ r. and_then (and_then r (new_goal claims (span_of tree))) (λ place. Ok (reads.form, place))) reads.name
    ∙ ap (λ r. and_then r (λ place. Ok (reads.form, place))) fresh

claim-is : (f : File) (claims : List Claimed) (place : ℕ) (a : GoalAnswer) (first : ℕ) (tree : Tree)
    (reads : AnswerOf f place a first tree) → AreBefore place claims → IsAnswerAt f place a
    → rule_count claims + length (rules_of a) ≤ 65536 → IsClaim f claims tree (Ok (claim-of f place a first tree reads))
claim-is f claims place a first tree reads before is few =
    let size : ℕ = size_of (state_of a) in
    let rules : AreRules f place size (rule_count claims) [] reads.form.rules (Ok (rules_of a)) =
    rules-are f place size (rule_count claims) [] (rules_of a) reads.form.rules reads.rules is.rules
    (λ p q i j e. i) is.distinct (omega (arith, few)) in
    inl (
      (reads.form, place),
      sym (claim-formed f claims place a first tree reads before),
      inl (
        rules_of a,
        subst (λ st. AreRules f place (size_of st) (rule_count claims) [] reads.form.rules (Ok (rules_of a)))
            (sym reads.state) rules,
        sym (ap (λ r. and_then r (λ undecided. Ok (claimed reads.form place (rules_of a) undecided)))
            (opens-are f (undecided_of a) reads.form.opens reads.opens)),
      ),
    )

-- ---- all claims

abbrev pub AreAnswersAt : File → ℕ → List GoalAnswer → Type 0
AreAnswersAt f place [] = Unit {0}
AreAnswersAt f place (a ∷ rest) = IsAnswerAt f place a × AreAnswersAt f (place + 1) rest

-- the claims that the walk goes on to make, after those that were made
pub record AreRead (f : File) (bytes : List ℕ) (place : ℕ) (answers : List GoalAnswer) (trees : List Tree)
    (claims : List Claimed) : Type 0 where
  pub more : List Claimed
  pub read : AreClaims f claims trees (Ok (claims ++ more))
  pub same : SayTheSame f bytes place answers more

claims-are : (f : File) (bytes : List ℕ) (place : ℕ) (gs : List Goal) (answers : List GoalAnswer) (start : ℕ)
    (trees : List Tree) (claims : List Claimed) (before : List ℕ) → AnswersRead f place gs answers start trees
    → AreAnswersAt f place answers → AreBefore place claims → rule_count claims + rule_total answers ≤ 65536
    → bytes ≡ before ++ answers_text f gs answers → start ≡ length before → AreRead f bytes place answers trees claims
claims-are f bytes place [] [] start [] claims before h is fresh few e at =
    record { more = []; read = ap Ok (append-nothing claims); same = tt }
claims-are f bytes place [] [] start (t ∷ ts) claims before h is fresh few e at = absurd h
claims-are f bytes place [] (a ∷ answers) start trees claims before h is fresh few e at = absurd h
claims-are f bytes place (g ∷ gs) [] start trees claims before h is fresh few e at = absurd h
claims-are f bytes place (g ∷ gs) (a ∷ answers) start [] claims before h is fresh few e at = absurd h
claims-are f bytes place (g ∷ gs) (a ∷ answers) start (t ∷ ts) claims before h is fresh few e at =
    let text : List ℕ = answer_text f g.name a in
    let claim : Claimed = claim-of f place a h.0.first t h.0.reads in
    let total : rule_total (a ∷ answers) ≡ length (rules_of a) + rule_total answers =
    sum_by-cons (λ a. length (rules_of a)) a answers in
    let counted : rule_count (claims ++ claim ∷ []) ≡ rule_count claims + rule_count (claim ∷ []) =
    sum_by-append (λ (c : Claimed). length c.rules) claims (claim ∷ []) in
    let single : rule_count (claim ∷ []) ≡ length (rules_of a) + 0 =
    sum_by-cons (λ (c : Claimed). length c.rules) claim [] in
    let long : length (before ++ text) ≡ length before + length text = length-append before text in
    let rest = claims-are f bytes (place + 1) gs answers (start + length text) ts (claims ++ claim ∷ [])
    (before ++ text) h.1 is.1 (still-before place claims claim fresh refl) (omega (arith, few, total, counted, single))
    (e ∙ sym (append_assoc before text (answers_text f gs answers))) (omega (arith, at, long)) in
    record {
      more = claim ∷ rest.more;
      read = inl (
        claim,
        claim-is f claims place a h.0.first t h.0.reads fresh is.0 (omega (arith, few, total)),
        subst (λ cs. AreClaims f (claims ++ claim ∷ []) ts (Ok cs)) (append_assoc claims (claim ∷ []) rest.more)
            rest.read,
      );
      same = (says f bytes g.name place start a t before (answers_text f gs answers) h.0 e at, rest.same);
    }

pub all-claims : (f : File) (answers : List GoalAnswer) (trees : List Tree)
    → AnswersRead f 0 f.goals answers 17 trees → AreAnswersAt f 0 answers → rule_total answers ≤ 65536
    → AreRead f (library_text f answers) 0 answers trees []
all-claims f answers trees h is few =
    let none : rule_count [] ≡ 0 = refl in
    claims-are f (library_text f answers) 0 f.goals answers 17 trees [] (codes "(isel-library 1)" ++ 10 ∷ []) h is
    (λ n l. refl) (omega (arith, few, none)) refl refl
