-- What a text is by its items, and that it has one outcome.
use Rattle.std.proofs.Common.{◌≡◌, ◌∙◌, ℕ, ◌+◌, ◌<◌, List, [], ◌∷◌, ◌++◌, length, map, All, refl, sym, ap, subst}
use Rattle.std.proofs.Common.{Result, Ok, Err, ◌⊎◌, inl, inr, Vec, Global, Contains}
use Rattle.std.specs.Prelude.{MatchResult, IsTrue}
use Rattle.std.proofs.lemmas.List.Elements.{All-nil, All-cons}
use Rattle.sexp_read.specs.declared.fault.SexpFault.{SexpFault}
use Rattle.sexp_read.specs.declared.forest.Forest.{Forest}
use Rattle.sexp_read.specs.declared.forest.Item.{Item}
use Rattle.sexp_read.specs.Token.{tokens}
use Rattle.sexp_read.specs.Tree.{Tree, Trees, End, Then, list_of}
use Rattle.sexp_read.specs.Fault.{IsFault}
use Rattle.sexp_read.specs.Forest.{IsReading, DenoteAll, tree_at, places, items_of}
use Rattle.sexp_read.proofs.ForestLemmas.{forest-denotes, denotes-within}
use Rattle.sexp_read.proofs.TreeAtLemmas.{outermost-trees}
use Rattle.sexp_read.proofs.FaultLemmas.{trees-unique, reading-faultless, fault-unique}
use Rattle.isel_spec.specs.File.{File}
use Rattle.pattern_core.specs.declared.pattern.Pattern.{Pattern}
use Rattle.pattern_core.specs.Walk.{IsCanonical}
use Rattle.pattern_text.specs.declared.claimed.Claimed.{Claimed}
use Rattle.pattern_text.specs.declared.fault.LibFault.{LibFault}
use Rattle.pattern_text.specs.declared.fault.LibKind.TheVariants as fault
use Rattle.pattern_text.specs.Items.{ClaimForm, is_head}
use Rattle.pattern_text.specs.Steps.{Span, span_of, fault_at, and_then, IsThat, AndThen, Where}
use Rattle.pattern_text.specs.Rules.{rule_read, IsVerdict, IsPatternOf, IsRule, AreRules, opens_read}
use Rattle.pattern_text.specs.Reading.{size_of, rule_count, claimed, claim_read, IsClaimOf, IsClaim, AreClaims}
use Rattle.pattern_text.specs.Reading.{IsLibrary}
use Rattle.pattern_text.specs.Outcome.{text_fault, AreTrees, IsOutcome}
use Rattle.pattern_text.specs.Outcomes.{IsListOr}

-- ---- the outcome by the outermost items

all-within : (bytes : List ℕ) (items : List Item) (numbers : List ℕ) (trees : Trees)
    → DenoteAll bytes items numbers trees → All (λ item. item < length items) numbers
all-within bytes items [] End d = All-nil (λ item. item < length items)
all-within bytes items [] (Then tree trees) d = absurd d
all-within bytes items (n ∷ ns) End d = absurd d
all-within bytes items (n ∷ ns) (Then tree trees) d =
    All-cons (λ item. item < length items) n ns (denotes-within bytes items n tree d.0)
    (all-within bytes items ns trees d.1)

pub top-within : (bytes : List ℕ) (forest : Forest) → IsReading bytes forest
    → All (λ item. item < length forest.items) forest.outermost
top-within bytes forest r =
    all-within bytes forest.items forest.outermost r.0 (forest-denotes bytes r.0 forest r.1)

top-outcome : (f : File) (bytes : List ℕ) (forest : Forest) (top : List ℕ) → IsReading bytes forest
    → top ≡ forest.outermost → (outcome : Result (List Claimed) LibFault)
    → IsLibrary f (length bytes) (map (tree_at bytes forest.items) top) outcome → IsOutcome f bytes outcome
top-outcome f bytes forest top r same outcome h =
    inr (
      r.0,
      record { text = r.1.text; spelled = r.1.spelled; nested = r.1.nested },
      subst (λ ts. IsLibrary f (length bytes) ts outcome)
          (ap (map (tree_at bytes forest.items)) same ∙ outermost-trees bytes r.0 forest r.1) h,
    )

-- what the walk over the items answers is what the text is
pub read-outcome : (f : File) (bytes : List ℕ) (forest : Forest) (top : List ℕ)
    (result : Result (Vec Claimed Global) LibFault) → IsReading bytes forest → top ≡ forest.outermost
    → IsListOr (IsLibrary f (length bytes) (map (tree_at bytes forest.items) top)) result
    → MatchResult result (λ claims. IsOutcome f bytes (Ok claims.items))
    (λ e. (e.kind ≡ fault.NoMemory) ⊎ IsOutcome f bytes (Err e))
read-outcome f bytes forest top (Ok claims) r same h = top-outcome f bytes forest top r same (Ok claims.items) h
read-outcome f bytes forest top (Err e) r same (inl n) = inl n
read-outcome f bytes forest top (Err e) r same (inr h) = inr (top-outcome f bytes forest top r same (Err e) h)

-- ---- one outcome

abbrev IsOne : {A : Type 0} → (Result A LibFault → Type 0) → Type 0
IsOne {A = A} Step = (x y : Result A LibFault) → Step x → Step y → x ≡ y

that-one : {A : Type 0} (computed : Result A LibFault) → IsOne (IsThat computed)
that-one computed x y h k = h ∙ sym k

same-ok : {A : Type 0} (a b : A) → ◌≡◌ {A = Result A LibFault} (Ok a) (Ok b) → a ≡ b
same-ok a b h = cc

not-both : {A : Type 0} (a : A) (e : LibFault) → ◌≡◌ {A = Result A LibFault} (Ok a) (Err e) → ⊥
not-both a e h = cc

same-fault : {A : Type 0} (d e : LibFault) → ◌≡◌ {A = Result A LibFault} (Err d) (Err e) → d ≡ e
same-fault d e h = cc

then-one : {A B : Type 0} (Step : Result A LibFault → Type 0) (Next : A → Result B LibFault → Type 0) → IsOne Step
    → ((a : A) → IsOne (Next a)) → IsOne (AndThen Step Next)
then-one {A} {B} Step Next one each x y (inl (a, s, n)) (inl (b, t, m)) =
    each b x y (subst (λ c. Next c x) (same-ok a b (one (Ok a) (Ok b) s t)) n) m
then-one {A} {B} Step Next one each x y (inl (a, s, n)) (inr (e, t, m)) = absurd (not-both a e (one (Ok a) (Err e) s t))
then-one {A} {B} Step Next one each x y (inr (d, s, n)) (inl (b, t, m)) = absurd (not-both b d (one (Ok b) (Err d) t s))
then-one {A} {B} Step Next one each x y (inr (d, s, n)) (inr (e, t, m)) =
    n ∙ ap Err (same-fault {A = A} d e (one (Err d) (Err e) s t)) ∙ sym m

where-one : {A : Type 0} (Holds : Type 0) (e : LibFault) (Next : Result A LibFault → Type 0) → IsOne Next
    → IsOne (Where Holds e Next)
where-one Holds e Next one x y (inl (h, n)) (inl (k, m)) = one x y n m
where-one Holds e Next one x y (inl (h, n)) (inr (k, m)) = absurd (k h)
where-one Holds e Next one x y (inr (h, n)) (inl (k, m)) = absurd (h k)
where-one Holds e Next one x y (inr (h, n)) (inr (k, m)) = n ∙ sym m

verdict-one : (f : File) (place size : ℕ) (earlier : List Pattern) (span : Span) (p : Pattern)
    → IsOne (IsVerdict f place size earlier span p)
verdict-one f place size earlier span p =
    where-one (IsPatternOf f place size p) (fault_at fault.Shape span)
    (Where (IsCanonical p) (fault_at fault.NotCanonical span)
    (Where (¬ Contains earlier p) (fault_at fault.Twice span) (IsThat (Ok p))))
    (where-one (IsCanonical p) (fault_at fault.NotCanonical span)
    (Where (¬ Contains earlier p) (fault_at fault.Twice span) (IsThat (Ok p)))
    (where-one (¬ Contains earlier p) (fault_at fault.Twice span) (IsThat (Ok p)) (that-one (Ok p))))

rule-one : (f : File) (place size before : ℕ) (earlier : List Pattern) (t : Tree)
    → IsOne (IsRule f place size before earlier t)
rule-one f place size before earlier t =
    then-one (IsThat (rule_read f before t)) (IsVerdict f place size earlier (span_of t))
    (that-one (rule_read f before t)) (verdict-one f place size earlier (span_of t))

rules-one : (f : File) (place size before : ℕ) (earlier : List Pattern) (ts : List Tree)
    → IsOne (AreRules f place size before earlier ts)
rules-one f place size before earlier [] = that-one (Ok earlier)
rules-one f place size before earlier (t ∷ ts) =
    then-one (IsRule f place size (before + length earlier) earlier t)
    (λ p. AreRules f place size before (earlier ++ p ∷ []) ts)
    (rule-one f place size (before + length earlier) earlier t)
    (λ p. rules-one f place size before (earlier ++ p ∷ []) ts)

form-one : (f : File) (claims : List Claimed) (form : ClaimForm) (place : ℕ) → IsOne (IsClaimOf f claims form place)
form-one f claims form place =
    then-one (AreRules f place (size_of form.state) (rule_count claims) [] form.rules)
    (λ rules. IsThat (and_then (opens_read f form.opens) (λ undecided. Ok (claimed form place rules undecided))))
    (rules-one f place (size_of form.state) (rule_count claims) [] form.rules)
    (λ rules. that-one (and_then (opens_read f form.opens) (λ undecided. Ok (claimed form place rules undecided))))

claim-one : (f : File) (claims : List Claimed) (t : Tree) → IsOne (IsClaim f claims t)
claim-one f claims t =
    then-one (IsThat (claim_read f claims t)) (λ found. IsClaimOf f claims found.0 found.1)
    (that-one (claim_read f claims t)) (λ found. form-one f claims found.0 found.1)

claims-one : (f : File) (claims : List Claimed) (ts : List Tree) → IsOne (AreClaims f claims ts)
claims-one f claims [] = that-one (Ok claims)
claims-one f claims (t ∷ ts) =
    then-one (IsClaim f claims t) (λ claim. AreClaims f (claims ++ claim ∷ []) ts) (claim-one f claims t)
    (λ claim. claims-one f (claims ++ claim ∷ []) ts)

library-one : (f : File) (end : ℕ) (ts : List Tree) → IsOne (IsLibrary f end ts)
library-one f end [] = that-one (Err (fault_at fault.Shape (end, end)))
library-one f end (head ∷ items) =
    where-one (IsTrue (is_head head)) (fault_at fault.Shape (span_of head)) (AreClaims f [] items)
    (claims-one f [] items)

-- a text that is trees has no fault of its lists
trees-faultless : (bytes : List ℕ) (trees : Trees) (e : SexpFault) → AreTrees bytes trees → IsFault bytes e → ⊥
trees-faultless bytes trees e are h =
    let forest : Forest = record { items = items_of 0 trees; outermost = places 0 trees } in
    reading-faultless bytes forest e (
      trees,
      record {
        text = are.text;
        spelled = are.spelled;
        nested = are.nested;
        items = refl;
        outermost = refl;
      },
    ) h

pub one-outcome : (f : File) (bytes : List ℕ) → IsOne (IsOutcome f bytes)
one-outcome f bytes x y (inl (d, h, n)) (inl (e, k, m)) =
    n ∙ ap (λ (a : SexpFault). Err (text_fault a)) (fault-unique bytes d e h k) ∙ sym m
one-outcome f bytes x y (inl (d, h, n)) (inr (ts, k, m)) = absurd (trees-faultless bytes ts d k h)
one-outcome f bytes x y (inr (ts, h, n)) (inl (e, k, m)) = absurd (trees-faultless bytes ts e h k)
one-outcome f bytes x y (inr (ts, h, n)) (inr (us, k, m)) =
    library-one f (length bytes) (list_of us) x y
    (subst (λ vs. IsLibrary f (length bytes) (list_of vs) x) (trees-unique (tokens bytes) ts us h.spelled k.spelled) n)
    m
