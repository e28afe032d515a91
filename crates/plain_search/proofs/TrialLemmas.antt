-- The number of trials by its parts, and the parts of a goal without memory.
use Rattle.std.proofs.Common.{◌≡◌, ℕ, zero, suc, ◌+◌, ◌*◌, ◌^◌, ◌<◌, ◌≤◌, Bool, true, false, List, [], ◌∷◌, ◌++◌}
use Rattle.std.proofs.Common.{length, filter, Option, Some, None, refl, sym, ap, subst, ◌∙◌, arith, add-one}
use Rattle.std.proofs.Common.{slice_get, get_or, sum_by, lit≤, cond, inl, inr, All}
use Rattle.std.specs.Prelude.{◌&&◌, ◌==◌, nat_lt, nat_le, SomeIff, Contains}
use Rattle.std.specs.Option.{option_map_or}
use Rattle.std.specs.List.{list_all, flat_map}
use Rattle.std.proofs.Math.Nat.{mul_comm, one-le-pow}
use Rattle.std.proofs.Math.Pow.{pow_mono}
use Rattle.std.proofs.lemmas.Bool.{false≢true, and_parts, eqb-true, ltb-true, lt-ltb, cases_lt}
use Rattle.std.proofs.lemmas.List.{length-map, nil_from_length}
use Rattle.std.proofs.lemmas.List.Sums.{sum_by-cons}
use Rattle.std.proofs.lemmas.Nat.{mul-le, pow_pos}
use Rattle.bv_terms.specs.declared.op.Op.TheVariants as op
use Rattle.bv_terms.specs.declared.op.TermId.{TermId}
use Rattle.bv_terms.specs.declared.value.Sort.{Sort}
use Rattle.bv_terms.specs.declared.value.Sort.TheVariants as sort
use Rattle.bv_terms.specs.Term.{Term, Apply, End, Then}
use Rattle.bv_terms.specs.Sorts.{same_sort, width_of}
use Rattle.bv_terms.specs.Table.{terms_of, term_in}
use Rattle.isel_spec.specs.declared.definitions.OpDef.{OpDef}
use Rattle.isel_spec.specs.declared.definitions.GoalDef.{GoalDef}
use Rattle.isel_spec.specs.declared.spec.Spec.{Spec}
use Rattle.isel_spec.specs.File.{File, Operation, Goal, goal, sorts_in, results_in}
use Rattle.isel_spec.specs.Memory.{is_memory, is_on, is_marked, chain, chains, access_in, some_of, subterms_of}
use Rattle.isel_spec.specs.Memory.{has_one_memory, has_memory_shape, accesses, same_access, each_once, accessed_bytes}
use Rattle.isel_spec.specs.Spec.{file}
use Rattle.isel_spec.proofs.SpecLemmas.{operation_is, goal_is, IsSoundOp_at, IsSoundGoal_at}
use Rattle.pattern_core.specs.Rule.{HasNoMemory}
use Rattle.plain_search.specs.Extent.{attribute_bits}
use Rattle.plain_search.specs.Trials.{factorial, input_bits, results_of, arguments_of, source_count, place_count}
use Rattle.plain_search.specs.Trials.{trials_of, in_64_bits}
use Rattle.list_lemmas.proofs.Lookups.{some_at}
use Rattle.list_lemmas.proofs.Members.{In, Contains-from_In}
use Rattle.multiset_rank.specs.Multisets.{AreBelow}

-- ---- orders

pub factorial-zero : 1 ≡ factorial 0
unfolding factorial
factorial-zero = refl

pub factorial-more : (n : ℕ) → factorial n * (n + 1) ≡ factorial (n + 1)
unfolding factorial
factorial-more n = rw (add-one) (mul_comm (factorial n) (suc n))

pub factorial-small : (n : ℕ) → n ≤ 6 → factorial n ≤ 720
unfolding factorial
factorial-small zero h = lit≤ tt
factorial-small (suc zero) h = lit≤ tt
factorial-small (suc (suc zero)) h = lit≤ tt
factorial-small (suc (suc (suc zero))) h = lit≤ tt
factorial-small (suc (suc (suc (suc zero)))) h = lit≤ tt
factorial-small (suc (suc (suc (suc (suc zero))))) h = lit≤ tt
factorial-small (suc (suc (suc (suc (suc (suc zero)))))) h = lit≤ tt
factorial-small (suc (suc (suc (suc (suc (suc (suc n))))))) h = absurd (omega (arith, h))

factorial_pos : (n : ℕ) → 1 ≤ factorial n
unfolding factorial
factorial_pos zero = lit≤ tt
factorial_pos (suc n) = mul-le 1 1 (suc n) (factorial n) (omega arith) (factorial_pos n)

-- one more order fits
pub orders_fit : (n orders : ℕ) → n < 6 → orders ≡ factorial n → orders * (n + 1) < 2 ^ 64
orders_fit n orders l e =
    let small = factorial-small n (omega arith) in
    let most = mul-le orders (n + 1) 720 6 (omega (arith, small, e)) (omega arith) in
    omega (arith, most)

-- ---- products of 64 bits

too_large : (n : ℕ) → (n < 2 ^ 64 → ⊥) → None ≡ in_64_bits n
too_large n h = by (nat_lt n (2 ^ 64)) refl
  where
    by : (b : Bool) → nat_lt n (2 ^ 64) ≡ b → None ≡ cond b (Some n) None
    by true e = absurd (h (ltb-true n (2 ^ 64) e))
    by false e = refl

fits_in : (n : ℕ) → n < 2 ^ 64 → Some n ≡ in_64_bits n
fits_in n h = sym (ap (λ b. cond b (Some n) None) (lt-ltb n (2 ^ 64) h))

pub product_is : (r : Option ℕ) (m n : ℕ) → SomeIff r (m < 2 ^ 64) m → m ≡ n → r ≡ in_64_bits n
product_is None m n h e = subst (λ x. None ≡ in_64_bits x) e (too_large m h)
product_is (Some x) m n h e = ap Some h.1 ∙ subst (λ y. Some m ≡ in_64_bits y) e (fits_in m h.0)

-- a factor that is too large, beside factors of 1 or more
pub choices_too_large : (n bits choices : ℕ) → (choices < 2 ^ 64 → ⊥) → None
    ≡ in_64_bits (factorial n * 2 ^ bits * choices)
choices_too_large n bits choices h =
    let front : 1 ≤ factorial n * 2 ^ bits = mul-le 1 1 (factorial n) (2 ^ bits) (factorial_pos n) (pow_pos bits) in
    let least = mul-le 1 choices (factorial n * 2 ^ bits) choices front (omega arith) in
    too_large (factorial n * 2 ^ bits * choices) (λ l. h (omega (arith, l, least)))

pub ordered_too_large : (n bits choices : ℕ) → 1 ≤ choices → (2 ^ bits * factorial n < 2 ^ 64 → ⊥) → None
    ≡ in_64_bits (factorial n * 2 ^ bits * choices)
ordered_too_large n bits choices some h =
    let front = mul_comm (2 ^ bits) (factorial n) in
    let least = mul-le (factorial n * 2 ^ bits) 1 (factorial n * 2 ^ bits) choices (omega arith) some in
    too_large (factorial n * 2 ^ bits * choices) (λ l. h (omega (arith, l, least, front)))

pub inputs_too_large : (n bits choices : ℕ) → 1 ≤ choices → (2 ^ bits < 2 ^ 64 → ⊥) → None
    ≡ in_64_bits (factorial n * 2 ^ bits * choices)
inputs_too_large n bits choices some h =
    let least = mul-le (2 ^ bits) 1 (2 ^ bits) (factorial n) (omega arith) (factorial_pos n) in
    ordered_too_large n bits choices some (λ l. h (omega (arith, l, least)))

-- ---- a goal without memory accesses none

no_filtered : {X : Type 0} (p : X → Bool) (xs : List X) → ((x : X) → In xs x → p x ≡ false) → filter p xs ≡ []
no_filtered p [] h = refl
no_filtered p (x ∷ xs) h =
    ap (λ b. cond b (x ∷ filter p xs) (filter p xs)) (h x (inl refl)) ∙ no_filtered p xs (λ y i. h y (inr i))

not_memory : (s : Sort) → (s ≡ sort.Mem → ⊥) → same_sort sort.Mem s ≡ false
not_memory sort.Bool h = refl
not_memory (sort.Bits w) h = refl
not_memory sort.Mem h = absurd (h refl)

no_access_in : (t : Term) → is_on [] t ≡ true → is_marked [] t ≡ true → some_of (access_in t) ≡ []
no_access_in (Apply (op.MLoad n) (Then m (Then p End))) on marked = absurd (false≢true marked)
no_access_in (Apply (op.MMark n) (Then m (Then p End))) on marked = absurd (false≢true on)
no_access_in (Apply (op.MStore n) (Then m (Then p (Then v End)))) on marked = absurd (false≢true on)
no_access_in _ on marked = refl

no_access_among : (ts : List Term) → list_all (is_on []) ts ≡ true → list_all (is_marked []) ts ≡ true
    → flat_map (λ t. some_of (access_in t)) ts ≡ []
no_access_among [] on marked = refl
no_access_among (t ∷ ts) on marked =
    let o = and_parts (is_on [] t) (list_all (is_on []) ts) on in
    let m = and_parts (is_marked [] t) (list_all (is_marked []) ts) marked in
    (λ i. no_access_in t o.0 m.0 i ++ no_access_among ts o.1 m.1 i)

pub no_accessed_bytes : (args : List Sort) (results : List Term) → (¬ Contains args sort.Mem)
    → has_memory_shape args results ≡ true → accessed_bytes results ≡ 0
no_accessed_bytes args results none shape =
    let one = has_one_memory args results in
    let on = list_all (is_on (chains results)) (subterms_of results) in
    let marked = list_all (is_marked (chains results)) (subterms_of results) in
    let p = and_parts (one && on) marked shape in
    let q = and_parts one on p.0 in
    let taken = length (filter (same_sort sort.Mem) args) in
    let given = length (filter is_memory results) in
    let r = and_parts (taken == given) (nat_le taken 1) q.0 in
    let no_args : filter (same_sort sort.Mem) args ≡ [] =
    no_filtered (same_sort sort.Mem) args
    (λ s i. not_memory s (λ e. none (Contains-from_In args sort.Mem (subst (In args) e i)))) in
    let no_results : filter is_memory results ≡ [] =
    nil_from_length (filter is_memory results) (sym (eqb-true taken given r.0) ∙ ap length no_args) in
    let no_chains : chains results ≡ [] = ap (flat_map chain) no_results in
    let bare : accesses results ≡ [] =
    no_access_among (subterms_of results)
    (subst (λ ms. list_all (is_on ms) (subterms_of results) ≡ true) no_chains q.1)
    (subst (λ ms. list_all (is_marked ms) (subterms_of results) ≡ true) no_chains p.1) in
    ap (λ as'. sum_by (λ (a : ℕ × Term). a.0) (each_once same_access as')) bare

-- ---- definitions of a file

pub results_at : (s : Spec) (k : ℕ) (name : List ℕ) (d : OpDef) → slice_get s.ops k ≡ Some (name, d)
    → length d.results ≡ results_of (file s) k
results_at s k name d e =
    sym (ap (λ o. option_map_or (λ (x : Operation). length x.results) o 0) (operation_is s k name d e)
    ∙ length-map d.results (λ (at : TermId). term_in (terms_of s.terms) at.0))

pub arguments_at : (s : Spec) (k : ℕ) (name : List ℕ) (d : OpDef) → slice_get s.ops k ≡ Some (name, d)
    → length d.args ≡ arguments_of (file s) k
arguments_at s k name d e =
    sym (ap (λ o. option_map_or (λ (x : Operation). length x.args) o 0) (operation_is s k name d e))

-- what a goal's definition adds to the number
record IsCounted (g : Goal) (d : GoalDef) : Type 0 where
  bits : sum_by width_of (sorts_in d.args) ≡ input_bits g
  inputs : length d.args ≡ length g.args
  results : length d.results ≡ length g.results

counted : (s : Spec) (k : ℕ) (name : List ℕ) (d : GoalDef) → slice_get s.goals k ≡ Some (name, d)
    → (¬ Contains (sorts_in d.args) sort.Mem) → IsCounted (goal s.terms (name, d)) d
counted s k name d e none =
    let bytes : accessed_bytes (results_in s.terms d.results) ≡ 0 =
    no_accessed_bytes (sorts_in d.args) (results_in s.terms d.results) none (IsSoundGoal_at s k (name, d) e).memory in
    let widths = sum_by width_of (sorts_in d.args) in
    record {
      bits = omega (arith, bytes);
      inputs = sym (length-map d.args (λ a. a.1));
      results = sym (length-map d.results (λ (at : TermId). term_in (terms_of s.terms) at.0));
    }

-- the number by the parts that the code has
pub trials_are : (s : Spec) (k : ℕ) (name : List ℕ) (d : GoalDef) (g : Goal) (ops : List ℕ)
    (count bits sources places : ℕ)
    → slice_get s.goals k ≡ Some (name, d) → slice_get (file s).goals k ≡ Some g → HasNoMemory (file s) g
    → count ≡ length ops → bits ≡ sum_by width_of (sorts_in d.args) + attribute_bits (file s) ops
    → sources ≡ length d.args + sum_by (results_of (file s)) ops
    → places ≡ sum_by (arguments_of (file s)) ops + length d.results
    → factorial count * 2 ^ bits * sources ^ places ≡ trials_of (file s) g ops
trials_are s k name d g ops count bits sources places e there none size wide from into =
    let same = goal_is s k name d g e there in
    let own = counted s k name d e (subst (λ (x : Goal). ¬ Contains x.args sort.Mem) same none.args) in
    let c = subst (λ (x : Goal). IsCounted x d) (sym same) own in
    let b = wide ∙ ap (λ n. n + attribute_bits (file s) ops) c.bits in
    let i = from ∙ ap (λ n. n + sum_by (results_of (file s)) ops) c.inputs in
    let r = into ∙ ap (λ n. sum_by (arguments_of (file s)) ops + n) c.results in
    λ j. factorial (size j) * 2 ^ b j * i j ^ r j

-- ---- fewer than 2^64 trials

-- every operation has a result
pub some_results : (s : Spec) (k : ℕ) → k < length s.ops → 1 ≤ results_of (file s) k
some_results s k l =
    let at = some_at s.ops k l in
    let sound = IsSoundOp_at s k at.0 at.1 in
    subst (λ n. 1 ≤ n) (results_at s k at.0.0 at.0.1 at.1) sound.some

-- without sources there are no bits to choose
no_source : (f : File) (g : Goal) (ops : List ℕ) → All (λ op. 1 ≤ results_of f op) ops → source_count f g ops ≡ 0
    → sum_by width_of g.args + attribute_bits f ops ≡ 0
no_source f g [] some none =
    let size : length g.args ≡ 0 = omega (arith, none) in
    let args : g.args ≡ [] = nil_from_length g.args size in
    ap (λ (ss : List Sort). sum_by width_of ss + attribute_bits f []) args
no_source f g (op ∷ ops) some none =
    let first : 1 ≤ results_of f op = some 0 0 (omega arith) in
    let parts = sum_by-cons (results_of f) op ops in
    absurd (omega (arith, none, first, parts))

-- a product of factors of 1 or more is no less than one of them
bits_within : (n low bits sources places : ℕ) → low ≤ bits → (sources ≡ 0 → low ≡ 0)
    → factorial n * 2 ^ bits * sources ^ places < 2 ^ 64 → low < 64
bits_within n low bits zero places within none few = let e = none refl in omega (arith, e)
bits_within n low bits (suc more) places within none few =
    elim (cases_lt low 64) [
      | inl l ↦ l
      | inr m ↦ absurd (too_many m)
    ]
  where
    too_many : 64 ≤ low → ⊥
    too_many m =
        let choices : 1 ≤ suc more ^ places = one-le-pow places (suc more) (omega arith) in
        let wide : 2 ^ 64 ≤ 2 ^ bits = pow_mono {i = 64} {j = bits} (omega (arith, m, within)) in
        let ordered : 1 * 2 ^ 64 ≤ factorial n * 2 ^ bits =
        mul-le 1 (2 ^ 64) (factorial n) (2 ^ bits) (factorial_pos n) wide in
        let whole : (1 * 2 ^ 64) * 1 ≤ factorial n * 2 ^ bits * suc more ^ places =
        mul-le (1 * 2 ^ 64) 1 (factorial n * 2 ^ bits) (suc more ^ places) ordered choices in
        omega (arith, whole, few)

-- the bits of the inputs and of the attributes are few
pub bits_from_trials : (s : Spec) (g : Goal) (ops : List ℕ) → AreBelow (length s.ops) ops
    → trials_of (file s) g ops < 2 ^ 64 → sum_by width_of g.args + attribute_bits (file s) ops < 64
bits_from_trials s g ops below few =
    let f : File = file s in
    bits_within (length ops) (sum_by width_of g.args + attribute_bits f ops) (input_bits g + attribute_bits f ops)
    (source_count f g ops) (place_count f g ops) (omega arith)
    (no_source f g ops (λ k d l. some_results s (get_or ops k d) (below k d l))) few
