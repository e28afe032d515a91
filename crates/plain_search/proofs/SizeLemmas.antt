-- The rules of a size, multiset by multiset, and the library of a goal, size by size.
use Rattle.std.proofs.Common.{◌≡◌, ℕ, zero, suc, ◌+◌, ◌<◌, ◌≤◌, List, [], ◌∷◌, ◌++◌, length, take, replicate}
use Rattle.std.proofs.Common.{Some, slice_get, refl, sym, ap, ◌∙◌, subst, inl, inr, arith}
use Rattle.std.specs.Prelude.{◌-◌}
use Rattle.std.proofs.lemmas.Bool.{cases_lt}
use Rattle.std.proofs.lemmas.List.{length-append, length-map, length-replicate, nil_from_length, take_more}
use Rattle.std.proofs.lemmas.List.Sums.{sum_by-append}
use Rattle.std.proofs.lemmas.Option.{slice_get_within, get_or_from_slice_get}
use Rattle.bv_terms.specs.Table.{IsTable}
use Rattle.isel_spec.specs.declared.spec.Spec.{Spec}
use Rattle.isel_spec.specs.File.{File, Goal, operation}
use Rattle.isel_spec.specs.Spec.{file}
use Rattle.list_lemmas.proofs.Members.{In, In-from_Contains, Contains-from_In, In-slice_get}
use Rattle.list_lemmas.proofs.Lookups.{some_at}
use Rattle.list_lemmas.proofs.Orders.{IsOrdered, Before, ordered-from_AllPairs}
use Rattle.multiset_rank.specs.Multisets.{AreMultisets}
use Rattle.pattern_core.specs.declared.pattern.Pattern.{Pattern}
use Rattle.pattern_core.specs.Library.{AreRules, IsLibrary}
use Rattle.pattern_core.specs.Order.{multiset}
use Rattle.pattern_core.specs.Pattern.{IsWellFormed}
use Rattle.pattern_core.specs.Rule.{IsRule, TakesNoMemory}
use Rattle.pattern_core.proofs.ThingLemmas.{plain_rules}
use Rattle.plain_search.specs.Extent.{attribute_bits_of, attribute_bits, CanSearch}
use Rattle.plain_search.specs.Rules.{AreRulesOf, AreRulesAmong}
use Rattle.plain_search.proofs.GrownLemmas.{length-multiset}
use Rattle.plain_search.proofs.RenamedLemmas.{HasCanonical, HasCanonical-from_rule}
use Rattle.plain_search.proofs.SieveLemmas.{AreRulesPlain, AreRulesAmong-more}

-- ---- the multisets of a size

pub In_of_take : {X : Type 0} (xs : List X) (i : ℕ) (y : X) → In (take i xs) y → In xs y
In_of_take xs zero y h = absurd h
In_of_take [] (suc i) y h = h
In_of_take (x ∷ xs) (suc i) y (inl e) = inl e
In_of_take (x ∷ xs) (suc i) y (inr h) = inr (In_of_take xs i y h)

-- what stands in a place comes after what stands before it
pub before_place : {X : Type 0} (R : X → X → Type 0) (xs : List X) (i : ℕ) (x : X) → IsOrdered R xs
    → slice_get xs i ≡ Some x → (y : X) → In (take i xs) y → R y x
before_place R [] i x h at y j = absurd (cc)
before_place R (z ∷ zs) zero x h at y j = absurd j
before_place {X} R (z ∷ zs) (suc i) x h at y (inl e) =
    subst (λ (w : X). R w x) e (h.0 x (In-slice_get zs i x at))
before_place R (z ∷ zs) (suc i) x h at y (inr j) = before_place R zs i x h.1 at y j

pub take_next : {X : Type 0} (xs : List X) (i : ℕ) (x : X) → slice_get xs i ≡ Some x
    → take (i + 1) xs ≡ take i xs ++ x ∷ []
take_next {X} xs i x at =
    take_more xs i x (slice_get_within xs i x at)
    ∙ ap (λ (y : X). take i xs ++ y ∷ []) (get_or_from_slice_get xs i x x at)

-- the rules of the multisets so far, and of one more
pub among-more : (f : File) (g : Goal) (kinds size i : ℕ) (multis : List (List ℕ)) (ops : List ℕ)
    (rules more : List Pattern) → AreMultisets kinds size multis → slice_get multis i ≡ Some ops
    → AreRulesAmong f g (take i multis) rules → AreRulesOf f g ops more
    → AreRulesAmong f g (take (i + 1) multis) (rules ++ more)
among-more f g kinds size i multis ops rules more are at among of =
    subst (λ (ms : List (List ℕ)). AreRulesAmong f g ms (rules ++ more)) (sym (take_next multis i ops at))
    (AreRulesAmong-more f g (take i multis) ops rules more
    (λ xs j. (
      sized xs (In_of_take multis i xs j) ∙ sym (sized ops (In-slice_get multis i ops at)),
      before_place Before multis i ops (ordered-from_AllPairs Before multis are.rising) at xs j,
    )) among of)
  where
    sized : (xs : List ℕ) → In multis xs → length xs ≡ size
    sized xs j = ((are.members xs).0 (Contains-from_In multis xs j)).0

-- ---- bits

-- fewer operations have no more bits than those of the bound
pub few-bits : (f : File) (g : Goal) (bound size : ℕ) → CanSearch f g bound → size ≤ bound → (ops : List ℕ)
    → length ops ≡ size → attribute_bits f ops < 64
few-bits f g bound size can within ops e =
    let rest : List ℕ = replicate (bound - size) 0 in
    let long : length (ops ++ rest) ≡ length ops + length rest = length-append ops rest in
    let left : length rest ≡ bound - size = length-replicate (bound - size) 0 in
    let small : attribute_bits f (ops ++ rest) ≤ 12 =
    can.attributes (ops ++ rest) (omega (arith, long, left, e, within)) in
    let parts : attribute_bits f (ops ++ rest) ≡ attribute_bits f ops + attribute_bits f rest =
    sum_by-append (attribute_bits_of f) ops rest in
    omega (arith, small, parts)

-- ---- the least size

-- no pattern of fewer nodes is a rule
abbrev pub HasNoneBelow : File → Goal → ℕ → Type 0
HasNoneBelow f g size = (p : Pattern) → IsWellFormed f g p → length p.nodes < size → IsRule f g p → ⊥

pub none_below-start : (f : File) (g : Goal) (size : ℕ) → size ≡ 0 → HasNoneBelow f g size
none_below-start f g size e p w l rule = absurd (omega (arith, l, e))

pub rules_plain : (s : Spec) (place : ℕ) (g : Goal) → IsTable s.terms → slice_get (file s).goals place ≡ Some g
    → TakesNoMemory g → AreRulesPlain (file s) g
rules_plain s place g table there none p w = plain_rules s place g table there p w none

-- where a size has no canonical rule, it has none
pub none_below-more : (s : Spec) (place : ℕ) (g : Goal) → IsTable s.terms → slice_get (file s).goals place ≡ Some g
    → TakesNoMemory g → (size : ℕ) (rules : List Pattern) → rules ≡ [] → HasNoneBelow (file s) g size
    → AreRules (file s) g size rules → HasNoneBelow (file s) g (size + 1)
none_below-more s place g table there plain size rules empty none are p w l rule =
    elim (cases_lt (length p.nodes) size) [
      | inl a ↦ none p w a rule
      | inr b ↦ last (omega (arith, l, b))
    ]
  where
    last : length p.nodes ≡ size → ⊥
    last e =
        let law = rules_plain s place g table there plain in
        let c : HasCanonical (file s) g p = HasCanonical-from_rule s place g table there p w ((law p w).0 rule) in
        let listed : In rules c.pattern = In-from_Contains rules c.pattern
        ((are.members c.pattern).1
        (c.well_formed, c.canonical, c.of_size ∙ e, (law c.pattern c.well_formed).1 c.rule)) in
        let found : In [] c.pattern = subst (λ (xs : List Pattern). In xs c.pattern) empty listed in
        absurd found

-- ---- the library

pub library-found : (f : File) (g : Goal) (bound size : ℕ) (rules : List Pattern) → size ≤ bound
    → HasNoneBelow f g size → AreRules f g size rules → (rules ≡ [] → ⊥) → IsLibrary f g bound rules
library-found f g bound size [] within none are some = absurd (some refl)
library-found f g bound size (p ∷ ps) within none are some =
    let is = (are.members p).0 (Contains-from_In (p ∷ ps) p (inl refl)) in
    inr (
      size,
      within,
      record {
        pattern = p;
        well_formed = is.0;
        rule = is.3;
        of_size = is.2;
        least = none;
      },
      are,
    )

pub library-none : (f : File) (g : Goal) (bound size : ℕ) (rules : List Pattern) → rules ≡ [] → bound < size
    → HasNoneBelow f g size → IsLibrary f g bound rules
library-none f g bound size rules empty past none =
    inl (record { none = λ p w l rule. none p w (omega (arith, l, past)) rule }, empty)

-- ---- a file without operations

-- its well-formed patterns have no nodes
no_nodes : (s : Spec) (g : Goal) → length s.ops ≡ 0 → (p : Pattern) → IsWellFormed (file s) g p → length p.nodes ≡ 0
no_nodes s g none p w =
    elim (cases_lt 0 (length p.nodes)) [
      | inl l ↦ (let first = some_at p.nodes 0 l in
          let is = w.nodes 0 first.0 first.1 in
          let within = slice_get_within (file s).ops first.0.op is.operation is.in_file in
          let size = length-map s.ops (operation s.terms) in
          absurd (omega (arith, within, size, none)))
      | inr e ↦ omega (arith, e)
    ]

pub no_rules-without_operations : (s : Spec) (g : Goal) (size : ℕ) (rules : List Pattern) → length s.ops ≡ 0
    → 0 < size → rules ≡ [] → AreRules (file s) g size rules
no_rules-without_operations s g size rules none some empty =
    subst (AreRules (file s) g size) (sym empty) (record {
      rising = tt;
      members = λ p. (
        λ c. absurd (In-from_Contains [] p c),
        λ h. let nodes = no_nodes s g none p h.0 in
            absurd (let size = h.2 in omega (arith, nodes, size, some)),
      );
    })

-- the rules without nodes are those with the empty multiset of operations
pub rules-without_nodes : (f : File) (g : Goal) (size : ℕ) (ops : List ℕ) (rules : List Pattern) → size ≤ 0
    → ops ≡ [] → AreRulesOf f g ops rules → AreRules f g size rules
rules-without_nodes f g size ops rules zero_size empty of = record {
  rising = of.rising;
  members = λ p. (
    λ c. let h = (of.members p).0 c in (
      h.0,
      h.1,
      (let same = length-multiset p.nodes in
          let long : length (multiset p.nodes) ≡ 0 = ap length (h.2 ∙ empty) in
          omega (arith, same, long, zero_size)),
      h.3,
    ),
    λ h. (of.members p).1 (
      h.0,
      h.1,
      (let same = length-multiset p.nodes in
          let size = h.2 in
          nil_from_length (multiset p.nodes) (omega (arith, same, size, zero_size)) ∙ sym empty),
      h.3,
    ),
  );
}
