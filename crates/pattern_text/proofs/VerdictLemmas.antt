-- Which patterns are those of a goal, and whether one is among others.
use Rattle.std.proofs.Common.{◌≡◌, ◌∙◌, ℕ, ◌<◌, List, [], ◌∷◌, length, map, Option, Some, None, Bool, true, false}
use Rattle.std.proofs.Common.{refl, sym, ap, subst, All, Contains, arith, slice_get, if◌then◌else◌, ◌⊎◌, inl, inr}
use Rattle.std.proofs.Common.{◌↔◌}
use Rattle.std.specs.Prelude.{IsSome, nat_lt, IsTrue}
use Rattle.std.proofs.lemmas.Bool.{ltb-true, false≢true}
use Rattle.std.proofs.lemmas.List.{length-map}
use Rattle.std.proofs.lemmas.List.Elements.{All-nil, All-cons, All-contains}
use Rattle.std.proofs.lemmas.Option.{same_Some}
use Rattle.bv_terms.specs.declared.value.Sort.{Sort}
use Rattle.bv_terms.specs.Term.{Term}
use Rattle.bv_terms.specs.Table.{IsTable}
use Rattle.bv_terms.specs.WellSorted.{sort_of}
use Rattle.isel_spec.specs.declared.spec.Spec.{Spec}
use Rattle.isel_spec.specs.File.{File, Goal, goal}
use Rattle.isel_spec.specs.Spec.{file}
use Rattle.list_lemmas.proofs.Lists.{Each}
use Rattle.list_lemmas.proofs.Lookups.{some_at, Contains-cases}
use Rattle.pattern_core.specs.declared.pattern.Src.{Src}
use Rattle.pattern_core.specs.declared.pattern.Src.TheVariants.{Input, Out}
use Rattle.pattern_core.specs.declared.pattern.Node.{Node}
use Rattle.pattern_core.specs.declared.pattern.Pattern.{Pattern}
use Rattle.pattern_core.specs.Pattern.{source_sort, IsWellFormed}
use Rattle.pattern_core.specs.Order.{pattern_cmp, IsTotalOrderOf}
use Rattle.pattern_core.specs.Walk.{IsBefore, IsForward}
use Rattle.pattern_core.proofs.TotalLemmas.{IsLimited, IsLimited-from_spec}
use Rattle.pattern_text.specs.Rules.{IsPatternOf, is_small}
use Rattle.pattern_text.specs.Index.{AreOrdered}

-- ---- a well-formed pattern names earlier nodes alone

where-some : {A : Type 0} (b : Bool) (o : Option A) (x : A) → (if b then o else None) ≡ Some x → b ≡ true
where-some true o x e = refl
where-some false o x e = absurd (cc)

before : (f : File) (g : Goal) (nodes : List Node) (k : ℕ) (x : Src) (t : Sort) → source_sort f g nodes k x ≡ Some t
    → IsBefore k x
before f g nodes k (Input i) t e = tt
before f g nodes k (Out node result) t e = ltb-true node k (where-some (nat_lt node k) _ t e)

all-before : (f : File) (g : Goal) (nodes : List Node) (k : ℕ) (xs : List Src) (os : List (Option Sort))
    → map (source_sort f g nodes k) xs ≡ os → Each (λ (o : Option Sort). IsSome o) os → All (IsBefore k) xs
all-before f g nodes k [] os e all = All-nil (IsBefore k)
all-before f g nodes k (x ∷ xs) [] e all = absurd (cc)
all-before f g nodes k (x ∷ xs) (None ∷ os) e all = absurd (false≢true all.0)
all-before f g nodes k (x ∷ xs) (Some t ∷ os) e all =
    let first : source_sort f g nodes k x ≡ Some t = cc in
    let rest : map (source_sort f g nodes k) xs ≡ os = cc in
    All-cons (IsBefore k) x xs (before f g nodes k x t first) (all-before f g nodes k xs os rest all.1)

all-some : (ss : List Sort) → Each (λ (o : Option Sort). IsSome o) (map (λ s. Some s) ss)
all-some [] = tt
all-some (s ∷ ss) = (refl, all-some ss)

sorts-some : (p : ℕ) (ts : List Term) → Each (λ (t : Term). IsSome (sort_of p t)) ts
    → Each (λ (o : Option Sort). IsSome o) (map (sort_of p) ts)
sorts-some p [] all = tt
sorts-some p (t ∷ ts) all = (all.0, sorts-some p ts all.1)

pub forward : (s : Spec) (k size : ℕ) (p : Pattern) → IsTable s.terms → IsPatternOf (file s) k size p → IsForward p
forward s k size p table of =
    let f : File = file s in
    let g : Goal = of.goal in
    let limits : IsLimited f g = IsLimited-from_spec s k g table of.in_file in
    record {
      nodes = λ j n e.
          let fit = of.well_formed.nodes j n e in
          all-before f g p.nodes j n.args (map (λ t. Some t) fit.operation.args) fit.args (all-some fit.operation.args);
      results = all-before f g p.nodes (length p.nodes) p.results (map (sort_of f.pointer) g.results)
          of.well_formed.results (sorts-some f.pointer g.results limits.sorted);
    }

-- ---- the goal that stands at a place

pub goal-at : (s : Spec) (k : ℕ) → k < length s.goals → (g : Goal) × (slice_get (file s).goals k ≡ Some g)
goal-at s k l = some_at (map (goal s.terms) s.goals) k (subst (λ n. k < n) (sym (length-map s.goals (goal s.terms))) l)

pub of-size : (s : Spec) (k size : ℕ) (p : Pattern) (test : Bool) → k < length s.goals → is_small p ≡ true → test ≡ true
    → ((g : Goal) → slice_get (file s).goals k ≡ Some g → (IsTrue test ↔ IsWellFormed (file s) g p))
    → length p.nodes ≡ size → IsPatternOf (file s) k size p
of-size s k size p test l small e h n =
    let found = goal-at s k l in
    record {
      small = small;
      goal = found.0;
      in_file = found.1;
      well_formed = (h found.0 found.1).0 e;
      of_size = n;
    }

-- ---- the order of the earlier patterns

-- the earlier patterns of a goal are well-formed for it as this one is
well-formed : (f : File) (k size : ℕ) (p : Pattern) (xs : List Pattern) (of : IsPatternOf f k size p)
    → All (IsPatternOf f k size) xs → (x : Pattern) → Contains xs x → IsWellFormed f of.goal x
well-formed f k size p xs of all x c =
    let other : IsPatternOf f k size x = All-contains (IsPatternOf f k size) xs x all c in
    subst (λ g. IsWellFormed f g x) (same_Some other.goal of.goal (sym other.in_file ∙ of.in_file)) other.well_formed

abbrev Total : File → ℕ → Type 0
Total f k = (g : Goal) → slice_get f.goals k ≡ Some g → IsTotalOrderOf (IsWellFormed f g) pattern_cmp

-- the order is a total one of a pattern of a goal and the earlier ones
pub ordered : (f : File) (k size : ℕ) (p : Pattern) (xs : List Pattern) → Total f k → IsPatternOf f k size p
    → All (IsPatternOf f k size) xs → AreOrdered p xs
ordered f k size p xs total of all =
    let order = total of.goal of.in_file in
    record {
      total = λ x y c d. order.total x y (member x c) (member y d);
      antisymmetric = λ x y c d. order.antisymmetric x y (member x c) (member y d);
      transitive = λ x y z c d e. order.transitive x y z (member x c) (member y d) (member z e);
    }
  where
    by : (x : Pattern) → (p ≡ x) ⊎ Contains xs x → IsWellFormed f of.goal x
    by x (inl same) = subst (IsWellFormed f of.goal) same of.well_formed
    by x (inr c) = well-formed f k size p xs of all x c

    member : (x : Pattern) → Contains (p ∷ xs) x → IsWellFormed f of.goal x
    member x c = by x (Contains-cases p x xs c)
