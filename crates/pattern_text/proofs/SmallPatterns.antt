-- A pattern that is well-formed for a goal of a sound file has small numbers.
use Rattle.std.proofs.Common.{◌≡◌, ℕ, ◌-◌, ◌^◌, ◌<◌, ◌≤◌, Bool, true, List, [], ◌∷◌, length, map, Option, Some}
use Rattle.std.proofs.Common.{None, refl, subst, arith, slice_get}
use Rattle.std.specs.Prelude.{nat_le, IsSome}
use Rattle.std.specs.List.{list_all}
use Rattle.std.proofs.Math.Nat.{pow-le-pow_right}
use Rattle.std.proofs.lemmas.Bool.{false≢true}
use Rattle.std.proofs.lemmas.Option.{slice_get_within}
use Rattle.list_lemmas.proofs.Bools.{and_parts, and-both, le_true, le-from_test}
use Rattle.list_lemmas.proofs.Lists.{Each}
use Rattle.list_lemmas.proofs.Lookups.{each_from_places, mapped_at}
use Rattle.bv_terms.specs.declared.value.Sort.{Sort}
use Rattle.bv_terms.specs.Table.{IsTable}
use Rattle.bv_terms.specs.WellSorted.{sort_of}
use Rattle.isel_spec.specs.declared.spec.Spec.{Spec}
use Rattle.isel_spec.specs.File.{File, Operation, Goal, operation, is_between}
use Rattle.isel_spec.specs.Spec.{file}
use Rattle.isel_spec.proofs.SpecLemmas.{IsSoundOp_at}
use Rattle.pattern_core.specs.declared.pattern.Src.{Src}
use Rattle.pattern_core.specs.declared.pattern.Src.TheVariants.{Input, Out}
use Rattle.pattern_core.specs.declared.pattern.Node.{Node}
use Rattle.pattern_core.specs.declared.pattern.Pattern.{Pattern}
use Rattle.pattern_core.specs.Pattern.{Pairwise, source_sort, IsFitting, IsWellFormed}
use Rattle.pattern_core.proofs.SourceLemmas.{small_source, earlier_node}
use Rattle.pattern_core.proofs.TotalLemmas.{IsLimited, IsLimited-from_spec, all_some, some_of}
use Rattle.pattern_text.specs.Rules.{is_small_source, is_small_node, is_small}

-- ---- sources

is-small-source : (f : File) (g : Goal) → IsLimited f g → (nodes : List Node) (k : ℕ) (s : Src) (t : Sort) → k ≤ 6
    → source_sort f g nodes k s ≡ Some t → is_small_source s ≡ true
is-small-source f g limits nodes k (Input i) t few e =
    let small : i < 4 = small_source f g limits.args limits.results nodes k (Input i) t e in
    le_true i 3 (omega (arith, small))
is-small-source f g limits nodes k (Out n r) t few e =
    let small : r < 3 = small_source f g limits.args limits.results nodes k (Out n r) t e in
    let before : n < k = earlier_node f g nodes k n r t e in
    and-both (nat_le n 5) (nat_le r 2) (le_true n 5 (omega (arith, before, few))) (le_true r 2 (omega (arith, small)))

are-small-sources : (f : File) (g : Goal) → IsLimited f g → (nodes : List Node) (k : ℕ) (xs : List Src)
    (os : List (Option Sort)) → k ≤ 6 → map (source_sort f g nodes k) xs ≡ os
    → Each (λ (o : Option Sort). IsSome o) os → list_all is_small_source xs ≡ true
are-small-sources f g limits nodes k [] os few e all = refl
are-small-sources f g limits nodes k (x ∷ xs) [] few e all = absurd (cc)
are-small-sources f g limits nodes k (x ∷ xs) (None ∷ os) few e all = absurd (false≢true all.0)
are-small-sources f g limits nodes k (x ∷ xs) (Some t ∷ os) few e all =
    let first : source_sort f g nodes k x ≡ Some t = cc in
    let rest : map (source_sort f g nodes k) xs ≡ os = cc in
    and-both (is_small_source x) (list_all is_small_source xs) (is-small-source f g limits nodes k x t few first)
    (are-small-sources f g limits nodes k xs os few rest all.1)

-- ---- attributes

is-small-attr : (w a : ℕ) → w ≤ 64 → a < 2 ^ w → nat_le a (2 ^ 64 - 1) ≡ true
is-small-attr w a narrow below =
    let fits : a < 2 ^ 64 = omega (arith, below, pow-le-pow_right {n = 2} (omega arith) narrow) in
    le_true a (2 ^ 64 - 1) (omega (arith, fits))

are-small-attrs : (ws as' : List ℕ) → list_all (is_between 1 64) ws ≡ true → Pairwise (λ w a. a < 2 ^ w) ws as'
    → list_all (λ a. nat_le a (2 ^ 64 - 1)) as' ≡ true
are-small-attrs [] [] h k = refl
are-small-attrs [] (a ∷ as') h k = absurd k
are-small-attrs (w ∷ ws) [] h k = absurd k
are-small-attrs (w ∷ ws) (a ∷ as') h k =
    let parts = and_parts (is_between 1 64 w) (list_all (is_between 1 64) ws) h in
    let narrow : w ≤ 64 = le-from_test w 64 (and_parts (nat_le 1 w) (nat_le w 64) parts.0).1 in
    and-both (nat_le a (2 ^ 64 - 1)) (list_all (λ a. nat_le a (2 ^ 64 - 1)) as') (is-small-attr w a narrow k.0)
    (are-small-attrs ws as' parts.1 k.1)

narrow-attrs : (s : Spec) (op : ℕ) (o : Operation) → slice_get (file s).ops op ≡ Some o
    → list_all (is_between 1 64) o.attrs ≡ true
narrow-attrs s op o e =
    let at = mapped_at (operation s.terms) s.ops op o e in
    let sound = IsSoundOp_at s op at.0 at.1 in
    subst (λ (o : Operation). list_all (is_between 1 64) o.attrs ≡ true) at.2 sound.attrs

-- ---- patterns

all-pass : (test : Node → Bool) (nodes : List Node) → Each (λ n. test n ≡ true) nodes → list_all test nodes ≡ true
all-pass test [] h = refl
all-pass test (n ∷ nodes) h = and-both (test n) (list_all test nodes) h.0 (all-pass test nodes h.1)

is-small-node : (s : Spec) (g : Goal) → IsLimited (file s) g → (nodes : List Node) (k : ℕ) (n : Node) → k ≤ 6
    → IsFitting (file s) g nodes k n → is_small_node n ≡ true
is-small-node s g limits nodes k n few fit =
    and-both (list_all (λ a. nat_le a (2 ^ 64 - 1)) n.attrs) (list_all is_small_source n.args)
    (are-small-attrs fit.operation.attrs n.attrs (narrow-attrs s n.op fit.operation fit.in_file) fit.attrs)
    (are-small-sources (file s) g limits nodes k n.args (map (λ t. Some t) fit.operation.args) few fit.args
    (all_some fit.operation.args))

pub is-small : (s : Spec) (place : ℕ) (g : Goal) → IsTable s.terms → slice_get (file s).goals place ≡ Some g
    → (p : Pattern) → IsWellFormed (file s) g p → is_small p ≡ true
is-small s place g table there p w =
    let limits : IsLimited (file s) g = IsLimited-from_spec s place g table there in
    let most : length p.nodes ≤ 6 = w.size in
    and-both (list_all is_small_node p.nodes) (list_all is_small_source p.results)
    (all-pass is_small_node p.nodes (each_from_places (λ n. is_small_node n ≡ true) p.nodes (λ k n e.
    let within : k < length p.nodes = slice_get_within p.nodes k n e in
    is-small-node s g limits p.nodes k n (omega (arith, within, most)) (w.nodes k n e))))
    (are-small-sources (file s) g limits p.nodes (length p.nodes) p.results (map (sort_of (file s).pointer) g.results)
    most w.results (some_of (file s).pointer g.results limits.sorted))
