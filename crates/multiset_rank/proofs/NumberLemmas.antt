-- How many claims there are, and which stands where.
use Rattle.std.proofs.Common.{◌≡◌, ℕ, zero, suc, ◌+◌, ◌-◌, ◌*◌, ◌/◌, ◌%◌, ◌^◌, ◌<◌, ◌≤◌, List, length, Some, refl, sym}
use Rattle.std.proofs.Common.{ap, subst, ◌∙◌, arith, add-one, add-zero, zero-add, length-append, slice_get, option_map}
use Rattle.std.specs.List.{flat_map, range_with_len}
use Rattle.std.proofs.lemmas.List.{length-map}
use Rattle.std.proofs.lemmas.Nat.{mul-le, div_below, div-add-mod', mod_below}
use Rattle.std.proofs.lemmas.Option.{slice_get-map, slice_get_within}
use Rattle.multiset_rank.specs.Binomial.{choose}
use Rattle.multiset_rank.specs.Multisets.{multisets}
use Rattle.multiset_rank.specs.Claims.{Plan, IsPlan, IsInPlan, claims, claims_of_size, claim_count}
use Rattle.multiset_rank.specs.Rising.{multichoose}
use Rattle.multiset_rank.proofs.CountLemmas.{multichoose-zero, multichoose-more, multichoose_of_choose}
use Rattle.multiset_rank.proofs.PlaceLemmas.{length-multisets}
use Rattle.multiset_rank.proofs.ClaimLemmas.{claims_of_size-flat_map, claims-flat_map, of_goal}
use Rattle.list_lemmas.proofs.Lists.{equal_blocks}
use Rattle.list_lemmas.proofs.Lookups.{block_at}

length-goal : (p : Plan) (s goal : ℕ) → length (of_goal p s goal) ≡ multichoose p.kinds s
length-goal p s goal = length-map (multisets p.kinds s) (λ xs. (goal, xs)) ∙ length-multisets p.kinds s

pub length-size : (p : Plan) (s : ℕ) → length (claims_of_size p s) ≡ p.goals * multichoose p.kinds s
length-size p s = ap length (claims_of_size-flat_map p s)
    ∙ equal_blocks (of_goal p s) (multichoose p.kinds s) (length-goal p s) 0 p.goals

-- as many as there are multisets of one more kind, whose repeats fill the size up
filled : Plan → ℕ → ℕ
filled p zero = 0
filled p (suc size) = p.goals * multichoose (p.kinds + 1) size

filled-more : (p : Plan) (s : ℕ) → filled p (suc s) ≡ filled p s + p.goals * multichoose p.kinds s
unfolding filled
filled-more p zero = let a = multichoose-zero (p.kinds + 1) in let b = multichoose-zero p.kinds in
    rw (a, b) (omega arith)
filled-more p (suc s) =
    let a : multichoose (p.kinds + 1) (suc s) ≡ multichoose (p.kinds + 1) s + multichoose p.kinds (suc s) =
    ap (λ k. multichoose k (suc s)) (add-one p.kinds) ∙ multichoose-more p.kinds s
    ∙ ap (λ k. multichoose k s + multichoose p.kinds (suc s)) (sym (add-one p.kinds)) in
    rw a (omega arith)

filled-from : (p : Plan) (n s t : ℕ) → t ≡ s + n
    → filled p s + length (flat_map (claims_of_size p) (range_with_len s n)) ≡ filled p t
filled-from p zero s t e = let same = ap (filled p) e in let z = ap (filled p) (add-zero s) in omega (arith, same, z)
filled-from p (suc n) s t e =
    let rest = filled-from p n (s + 1) t (omega (arith, e)) in
    let more = ap (filled p) (add-one s) ∙ filled-more p s in
    let first = length-size p s in
    let all = length-append (claims_of_size p s) (flat_map (claims_of_size p) (range_with_len (s + 1) n)) in
    omega (arith, rest, more, first, all)

pub below_none : (p : Plan) (size : ℕ) → size ≡ 0 → 0 ≡ length (flat_map (claims_of_size p) (range_with_len 0 size))
below_none p size e = sym (ap (λ n. length (flat_map (claims_of_size p) (range_with_len 0 n))) e)

pub below_some : (p : Plan) (size before : ℕ) → size ≡ before + 1
    → p.goals * multichoose (p.kinds + 1) before ≡ length (flat_map (claims_of_size p) (range_with_len 0 size))
unfolding filled
below_some p size before e =
    let s : size ≡ suc before = e ∙ add-one before in
    let all = filled-from p (suc before) 0 (suc before) (sym (zero-add (suc before))) in
    let same = ap (λ n. length (flat_map (claims_of_size p) (range_with_len 0 n))) s in
    omega (arith, all, same)

pub length-claims : (p : Plan)
    → length (claims p) ≡ length (flat_map (claims_of_size p) (range_with_len 0 (p.bound + 1)))
length-claims p = ap length (claims-flat_map p)

pub count-claims : (p : Plan) → p.goals * multichoose (p.kinds + 1) p.bound ≡ claim_count p
count-claims p =
    let e : p.kinds + 1 + p.bound - 1 ≡ p.kinds + p.bound = omega arith in
    ap (λ n. p.goals * n) (multichoose_of_choose (p.kinds + 1) p.bound ∙ ap (λ n. choose n p.bound) e)

multichoose_rises : (n s d : ℕ) → multichoose (suc n) s ≤ multichoose (suc n) (d + s)
multichoose_rises n s zero = let e = ap (multichoose (suc n)) (zero-add s) in omega (arith, e)
multichoose_rises n s (suc d) =
    let e : suc d + s ≡ suc (d + s) = omega arith in
    let a = multichoose_rises n s d in
    let b = ap (multichoose (suc n)) e ∙ multichoose-more n (d + s) in
    omega (arith, a, b)

pub below_small : (p : Plan) (before : ℕ) → IsPlan p → before ≤ p.bound
    → p.goals * multichoose (p.kinds + 1) before ≤ 2 ^ 20
below_small p before h l =
    let k = add-one p.kinds in
    let d : (p.bound - before) + before ≡ p.bound = omega arith in
    let rises = multichoose_rises p.kinds before (p.bound - before) in
    let a = ap (λ n. multichoose n before) k in
    let b : multichoose (suc p.kinds) ((p.bound - before) + before) ≡ multichoose (p.kinds + 1) p.bound =
    λ i. multichoose (sym k i) (d i) in
    let fits : multichoose (p.kinds + 1) before ≤ multichoose (p.kinds + 1) p.bound = omega (arith, rises, a, b) in
    let more = mul-le p.goals (multichoose (p.kinds + 1) before) p.goals (multichoose (p.kinds + 1) p.bound)
    (omega arith) fits in
    let count = count-claims p in
    let most = h.most_claims in
    omega (arith, more, count, most)

-- the claim of a goal with the multiset at a place
pub claim_stands : (p : Plan) (size goal place number : ℕ) (xs : List ℕ) → size ≤ p.bound → goal < p.goals
    → slice_get (multisets p.kinds size) place ≡ Some xs
    → number ≡ length (flat_map (claims_of_size p) (range_with_len 0 size)) + (goal * multichoose p.kinds size + place)
    → slice_get (claims p) number ≡ Some (goal, xs)
claim_stands p size goal place number xs l g e n =
    let within = slice_get_within (multisets p.kinds size) place xs e in
    let each = length-goal p size in
    let inner : place < length (of_goal p size goal) =
    subst (λ k. place < k) (length-multisets p.kinds size ∙ sym (each goal)) within in
    let first = equal_blocks (of_goal p size) (multichoose p.kinds size) each 0 goal in
    let at = goal * multichoose p.kinds size + place in
    let in_size : slice_get (claims_of_size p size) at ≡ Some (goal, xs) =
    ap (λ us. slice_get us at) (claims_of_size-flat_map p size)
    ∙ block_at (of_goal p size) goal p.goals place at g inner (omega (arith, first))
    ∙ slice_get-map (λ ys. (goal, ys)) (multisets p.kinds size) place ∙ ap (option_map (λ ys. (goal, ys))) e in
    ap (λ us. slice_get us number) (claims-flat_map p)
    ∙ block_at (claims_of_size p) size (p.bound + 1) at number (omega arith)
    (slice_get_within (claims_of_size p size) at (goal, xs) in_size) n
    ∙ in_size

pub claims-formula : (p : Plan) → length (flat_map (claims_of_size p) (range_with_len 0 (p.bound + 1))) ≡ claim_count p
claims-formula p = sym (below_some p (p.bound + 1) p.bound refl) ∙ count-claims p

pub below-more : (p : Plan) (size : ℕ) → length (flat_map (claims_of_size p) (range_with_len 0 (size + 1)))
    ≡ length (flat_map (claims_of_size p) (range_with_len 0 size)) + p.goals * multichoose p.kinds size
below-more p size =
    let one = ap (filled p) (add-one size) ∙ filled-more p size in
    let all = filled-from p (size + 1) 0 (size + 1) (sym (zero-add (size + 1))) in
    let part = filled-from p size 0 size (sym (zero-add size)) in
    omega (arith, one, all, part)

multichoose_some : (n s : ℕ) → 1 ≤ n → 1 ≤ multichoose n s
multichoose_some n s l =
    let e : n ≡ suc (n - 1) = omega arith in
    let rises = multichoose_rises (n - 1) 0 s in
    let a = multichoose-zero (suc (n - 1)) in
    let b : multichoose n s ≡ multichoose (suc (n - 1)) (s + 0) = λ i. multichoose (e i) (sym (add-zero s) i) in
    omega (arith, rises, a, b)

-- a number among the claims of a size, as a goal and the place of a multiset
pub record IsSplit (p : Plan) (size number before each : ℕ) : Type 0 where
  pub some : 0 < each
  pub goal : (number - before) / each < p.goals
  pub place : (number - before) % each < length (multisets p.kinds size)
  pub same : number ≡ before + ((number - before) / each * multichoose p.kinds size + (number - before) % each)

pub IsSplit-from : (p : Plan) (size number before each : ℕ) → 1 ≤ p.kinds
    → before ≡ length (flat_map (claims_of_size p) (range_with_len 0 size)) → before ≤ number
    → number < length (flat_map (claims_of_size p) (range_with_len 0 (size + 1))) → each ≡ multichoose p.kinds size
    → IsSplit p size number before each
IsSplit-from p size number before each k b l h e =
    let some = multichoose_some p.kinds size k in
    let more = below-more p size in
    let rest = number - before in
    let pos : 0 < each = omega (arith, some, e) in
    let product = ap (λ w. p.goals * w) e in
    let parts = div-add-mod' rest each in
    let same = ap (λ w. rest / each * w) e in
    record {
      some = pos;
      goal = div_below rest each p.goals pos (omega (arith, h, more, b, product));
      place = subst (λ w. rest % each < w) (e ∙ sym (length-multisets p.kinds size)) (mod_below rest each pos);
      same = omega (arith, parts, same, l);
    }

-- the number of a claim, from the parts that the code adds up
pub number_stands : (p : Plan) (kinds goal before g each place : ℕ) (ops multi : List ℕ) → kinds ≡ p.kinds → ops ≡ multi
    → IsInPlan p goal multi → each ≡ multichoose kinds (length ops)
    → before ≡ length (flat_map (claims_of_size p) (range_with_len 0 (length ops))) → g ≡ goal
    → slice_get (multisets kinds (length multi)) place ≡ Some multi
    → slice_get (claims p) (before + g * each + place) ≡ Some (goal, multi)
number_stands p kinds goal before g each place ops multi k o h e b q there =
    let size = length multi in
    let product : g * each ≡ goal * multichoose p.kinds size =
    λ i. q i * (e ∙ (λ j. multichoose (k j) (length (o j)))) i in
    let start : before ≡ length (flat_map (claims_of_size p) (range_with_len 0 size)) =
    b ∙ ap (λ (xs : List ℕ). length (flat_map (claims_of_size p) (range_with_len 0 (length xs)))) o in
    claim_stands p size goal place (before + g * each + place) multi h.size_within h.goal_below
    (ap (λ n. slice_get (multisets n size) place) (sym k) ∙ there) (omega (arith, product, start))

pub claim_fits : (p : Plan) (number : ℕ) (u : ℕ × List ℕ) → IsPlan p → slice_get (claims p) number ≡ Some u
    → number < 2 ^ 64
claim_fits p number u h e =
    let within = slice_get_within (claims p) number u e in
    let count = length-claims p ∙ claims-formula p in
    let most = h.most_claims in
    omega (arith, within, count, most)

-- the same, by a plan that is seen as p
pub IsSplit-seen : (q p : Plan) (size number before each : ℕ) → q ≡ p → IsPlan q
    → before ≡ length (flat_map (claims_of_size p) (range_with_len 0 size))
    → length (flat_map (claims_of_size p) (range_with_len 0 size)) ≤ number
    → number < length (flat_map (claims_of_size p) (range_with_len 0 (size + 1))) → each ≡ multichoose q.kinds size
    → IsSplit p size number before each
IsSplit-seen q p size number before each v h b l t e =
    IsSplit-from p size number before each (subst IsPlan v h).some_kinds b (omega (arith, b, l)) t
    (e ∙ ap (λ (o : Plan). multichoose o.kinds size) v)

pub split_stands : (q p : Plan) (size number before each : ℕ) (xs : List ℕ) → q ≡ p → IsSplit p size number before each
    → size ≤ p.bound → before ≡ length (flat_map (claims_of_size p) (range_with_len 0 size))
    → slice_get (multisets q.kinds size) ((number - before) % each) ≡ Some xs
    → slice_get (claims p) number ≡ Some ((number - before) / each, xs)
split_stands q p size number before each xs v h l b there =
    let rest = number - before in
    claim_stands p size (rest / each) (rest % each) number xs l h.goal
    (ap (λ (o : Plan). slice_get (multisets o.kinds size) (rest % each)) (sym v) ∙ there)
    (h.same ∙ ap (λ n. n + (rest / each * multichoose p.kinds size + rest % each)) b)
