-- The steps of the code from a place to a multiset, and from a multiset to its place.
use Rattle.std.proofs.Common.{◌≡◌, ℕ, ◌+◌, ◌-◌, ◌^◌, ◌<◌, ◌≤◌, true, List, [], ◌∷◌, ◌++◌, length, take, drop, set}
use Rattle.std.proofs.Common.{get_or, Option, Some, refl, sym, ap, subst, ◌∙◌, arith, add-one, add-zero, zero-add}
use Rattle.std.proofs.Common.{add_assoc, append_assoc, length-append, drop-cons, slice_get, option_map}
use Rattle.std.specs.Prelude.{IsTrue}
use Rattle.std.proofs.Math.Seq.{take-length}
use Rattle.std.proofs.lemmas.List.{append-nil, take_more}
use Rattle.std.proofs.lemmas.List.Elements.{recursion_from_All}
use Rattle.std.proofs.lemmas.Bool.{and_parts}
use Rattle.std.specs.List.{AllByRecursion}
use Rattle.std.specs.Prelude.{nat_le}
use Rattle.multiset_rank.specs.Multisets.{multisets, never_falls, AreBelow}
use Rattle.multiset_rank.specs.Rising.{multichoose, rising, padded}
use Rattle.multiset_rank.proofs.CountLemmas.{multichoose-zero, multichoose_small}
use Rattle.multiset_rank.proofs.PaddedLemmas.{padded-push, take-padded}
use Rattle.multiset_rank.proofs.RisingLemmas.{rising-zero, length-rising, is_below, multichoose-split, first_stands}
use Rattle.multiset_rank.proofs.RisingLemmas.{later_stands, skipped_stands}
use Rattle.multiset_rank.proofs.TupleLemmas.{multisets_are_rising, multiset_at, follows-zero}
use Rattle.list_lemmas.proofs.Bools.{le-from_test}
use Rattle.list_lemmas.proofs.Options.{option_map-map, option_map-same}

pub length-multisets : (m s : ℕ) → length (multisets m s) ≡ multichoose m s
length-multisets m s = ap length (multisets_are_rising m s) ∙ length-rising 0 m s

-- the same multiset, by its place among those that begin with a number from `first` on
pub record IsReached (from kinds size number first rest : ℕ) : Type 0 where
  pub within : rest < multichoose (kinds - first) (size + 1)
  pub same : slice_get (rising from (kinds - from) (size + 1)) number
      ≡ slice_get (rising first (kinds - first) (size + 1)) rest

pub reached_start : (from kinds size number : ℕ) → number < multichoose (kinds - from) (size + 1)
    → IsReached from kinds size number from number
reached_start from kinds size number l = record { within = l; same = refl }

pub reached_below : (from kinds size number first rest : ℕ) → IsReached from kinds size number first rest
    → first < kinds
reached_below from kinds size number first rest h = is_below first kinds size rest h.within

pub reached_next : (from kinds size number first rest block : ℕ) → IsReached from kinds size number first rest
    → block ≡ multichoose (kinds - first) size → block ≤ rest
    → IsReached from kinds size number (first + 1) (rest - block)
reached_next from kinds size number first rest block h e l =
    let below = reached_below from kinds size number first rest h in
    let split = multichoose-split first kinds size below in
    let w = h.within in
    record {
      within = omega (arith, split, w, e, l);
      same = h.same ∙ later_stands first kinds size (rest - block) rest below (omega (arith, e, l));
    }

pub reached_place : (from kinds size number first rest block : ℕ) → IsReached from kinds size number first rest
    → block ≡ multichoose (kinds - first) size → rest < block
    → slice_get (rising from (kinds - from) (size + 1)) number
    ≡ option_map (λ xs. first ∷ xs) (slice_get (rising first (kinds - first) size) rest)
reached_place from kinds size number first rest block h e l =
    h.same ∙ first_stands first kinds size rest (reached_below from kinds size number first rest h)
    (omega (arith, e, l))

-- the first numbers of the multiset are known, and the place of the others
pub record IsUnranked (kinds size number place from rest : ℕ) (places : List ℕ) : Type 0 where
  pub within : rest < multichoose (kinds - from) (size - place)
  pub same : slice_get (rising 0 kinds size) number
      ≡ option_map (λ xs. take place places ++ xs) (slice_get (rising from (kinds - from) (size - place)) rest)
  pub zeros : places ≡ padded (take place places)
  pub full : length (take place places) ≡ place

pub unranked_start : (kinds size number : ℕ) → number < length (multisets kinds size)
    → IsUnranked kinds size number 0 0 number (padded [])
unranked_start kinds size number l =
    let a : kinds - 0 ≡ kinds = omega arith in
    let b : size - 0 ≡ size = omega arith in
    record {
      within = subst (λ n. number < n) (length-multisets kinds size ∙ sym (λ i. multichoose (a i) (b i))) l;
      same = option_map-same (λ xs. xs) (λ x. refl) (slice_get (rising 0 kinds size) number)
          ∙ sym (λ i. option_map (λ xs. xs) (slice_get (rising 0 (a i) (b i)) number));
      zeros = refl;
      full = refl;
    }

unranked_same : (places more : List ℕ) (place first : ℕ) (o r : Option (List ℕ))
    → take (place + 1) more ≡ take place places ++ first ∷ [] → r ≡ option_map (λ xs. first ∷ xs) o
    → option_map (λ xs. take place places ++ xs) r ≡ option_map (λ xs. take (place + 1) more ++ xs) o
unranked_same places more place first o r e h =
    ap (option_map (λ xs. take place places ++ xs)) h
    ∙ option_map-map (λ xs. take place places ++ xs) (λ xs. first ∷ xs) (λ xs. take (place + 1) more ++ xs)
    (λ xs. sym (ap (λ ys. ys ++ xs) e ∙ append_assoc (take place places) (first ∷ []) xs)) o

pub unranked_next : (kinds size number place from rest first inner : ℕ) (places : List ℕ)
    → IsUnranked kinds size number place from rest places → place < size → size ≤ 6
    → inner < multichoose (kinds - first) (size - place - 1)
    → slice_get (rising from (kinds - from) (size - place - 1 + 1)) rest
    ≡ option_map (λ xs. first ∷ xs) (slice_get (rising first (kinds - first) (size - place - 1)) inner)
    → IsUnranked kinds size number (place + 1) first inner (set places place first)
unranked_next kinds size number place from rest first inner places h l m w s =
    let a : size - (place + 1) ≡ size - place - 1 = omega arith in
    let b : size - place ≡ size - place - 1 + 1 = omega arith in
    let done = take place places in
    let z = h.zeros in
    let f = h.full in
    let more : set places place first ≡ padded (done ++ first ∷ []) =
    ap (λ ps. set ps place first) z ∙ padded-push done place first (sym f) (omega arith) in
    let long : length (done ++ first ∷ []) ≡ place + 1 = omega (arith, f, length-append done (first ∷ [])) in
    let front : take (place + 1) (set places place first) ≡ done ++ first ∷ [] =
    ap (take (place + 1)) more ∙ take-padded (done ++ first ∷ []) (place + 1) (sym long) in
    record {
      within = subst (λ n. inner < multichoose (kinds - first) n) (sym a) w;
      same =
          h.same
          ∙ unranked_same places (set places place first) place first
          (slice_get (rising first (kinds - first) (size - (place + 1))) inner)
          (slice_get (rising from (kinds - from) (size - place)) rest) front
          ((λ i. slice_get (rising from (kinds - from) (b i)) rest) ∙ s
          ∙ sym (λ i. option_map (λ xs. first ∷ xs) (slice_get (rising first (kinds - first) (a i)) inner)));
      zeros = more ∙ sym (ap padded front);
      full = ap length front ∙ long;
    }

-- the one multiset of no number
none_left : (k n s r : ℕ) → s ≡ 0 → r < multichoose n s → slice_get (rising k n s) r ≡ Some []
none_left k n s r e l =
    let w : r < 1 = subst (λ t. r < t) (ap (multichoose n) e ∙ multichoose-zero n) l in
    let z : r ≡ 0 = omega arith in
    (λ i. slice_get (rising k n (e i)) (z i)) ∙ ap (λ ts. slice_get ts 0) (rising-zero k n)

pub unranked_all : (kinds size number place from rest : ℕ) (places : List ℕ)
    → IsUnranked kinds size number place from rest places → place ≡ size
    → slice_get (multisets kinds size) number ≡ Some (take size places)
unranked_all kinds size number place from rest places h e =
    ap (λ ts. slice_get ts number) (multisets_are_rising kinds size) ∙ h.same
    ∙ ap (option_map (λ xs. take place places ++ xs))
    (none_left from (kinds - from) (size - place) rest (omega arith) h.within)
    ∙ ap Some (append-nil (take place places) ∙ ap (λ n. take n places) e)

pub unranked_rises : (kinds size number : ℕ) (xs : List ℕ) → slice_get (multisets kinds size) number ≡ Some xs
    → IsTrue (never_falls xs)
unranked_rises kinds size number xs e = (multiset_at kinds size number xs e).2

-- each number is at least the one before it, the first at least k, and all are below m
abbrev pub Climbs : ℕ → ℕ → List ℕ → Type 0
Climbs k m [] = Unit {0}
Climbs k m (x ∷ xs) = (k ≤ x) × (x < m) × Climbs x m xs

Climbs-from_follows : (k m : ℕ) (xs : List ℕ) → never_falls (k ∷ xs) ≡ true → AllByRecursion (λ x. x < m) xs
    → Climbs k m xs
Climbs-from_follows k m [] h a = tt
Climbs-from_follows k m (x ∷ xs) h a =
    let parts = and_parts (nat_le k x) (never_falls (x ∷ xs)) h in
    (le-from_test k x parts.0, a.0, Climbs-from_follows x m xs parts.1 a.1)

Climbs-at : (k m : ℕ) (xs : List ℕ) (i d : ℕ) → i < length xs → Climbs k m (drop i xs)
    → (k ≤ get_or xs i d) × (get_or xs i d < m) × Climbs (get_or xs i d) m (drop (i + 1) xs)
Climbs-at k m xs i d l h = rw add-one (subst (Climbs k m) (drop-cons xs i d l) h)

-- a number that is the place of the multiset, if the numbers from `place` on are the first that may follow
pub record IsRanked (kinds number place from : ℕ) (ops : List ℕ) : Type 0 where
  pub climbs : Climbs from kinds (drop place ops)
  pub small : number + multichoose (kinds - from) (length ops - place) ≤ multichoose kinds (length ops)
  pub there : (r : ℕ) → r < multichoose (kinds - from) (length ops - place)
      → slice_get (rising 0 kinds (length ops)) (number + r)
      ≡ option_map (λ xs. take place ops ++ xs) (slice_get (rising from (kinds - from) (length ops - place)) r)

pub ranked_start : (kinds : ℕ) (ops : List ℕ) → IsTrue (never_falls ops) → AreBelow kinds ops → IsRanked kinds 0 0 0 ops
ranked_start kinds ops t b =
    let a : kinds - 0 ≡ kinds = omega arith in
    let e : length ops - 0 ≡ length ops = omega arith in
    let m : multichoose (kinds - 0) (length ops - 0) ≡ multichoose kinds (length ops) = λ i. multichoose (a i) (e i) in
    record {
      climbs = Climbs-from_follows 0 kinds ops (sym (follows-zero ops) ∙ t) (recursion_from_All (λ x. x < kinds) ops b);
      small = omega (arith, m);
      there = λ r l. option_map-same (λ xs. xs) (λ x. refl) (slice_get (rising 0 kinds (length ops)) (0 + r))
          ∙ sym (λ i. option_map (λ xs. xs) (slice_get (rising 0 (a i) (e i)) (sym (zero-add r) i)));
    }

pub ranked_from : (kinds number place from d : ℕ) (ops : List ℕ) → IsRanked kinds number place from ops
    → place < length ops → (from ≤ get_or ops place d) × (get_or ops place d < kinds)
ranked_from kinds number place from d ops h l = let c = Climbs-at from kinds ops place d l h.climbs in (c.0, c.1)

pub ranked_next : (kinds number place from d skip : ℕ) (ops : List ℕ) → IsRanked kinds number place from ops
    → place < length ops → skip + multichoose (kinds - get_or ops place d) (length ops - place)
    ≡ multichoose (kinds - from) (length ops - place)
    → IsRanked kinds (number + skip) (place + 1) (get_or ops place d) ops
ranked_next kinds number place from d skip ops h l e =
    let first = get_or ops place d in
    let size = length ops - (place + 1) in
    let c = Climbs-at from kinds ops place d l h.climbs in
    let t : length ops - place ≡ size + 1 = omega arith in
    let f : skip + multichoose (kinds - first) (size + 1) ≡ multichoose (kinds - from) (size + 1) =
    subst (λ n. skip + multichoose (kinds - first) n ≡ multichoose (kinds - from) n) t e in
    let split = multichoose-split first kinds size c.1 in
    let g = ap (multichoose (kinds - from)) t in
    let s = h.small in
    record {
      climbs = c.2;
      small = omega (arith, s, split, f, g);
      there = λ r w.
          ap (slice_get (rising 0 kinds (length ops))) (add_assoc number skip r)
          ∙ h.there (skip + r) (omega (arith, w, split, f, g))
          ∙ unranked_same ops ops place first (slice_get (rising first (kinds - first) size) r)
          (slice_get (rising from (kinds - from) (length ops - place)) (skip + r)) (take_more ops place d l)
          ((λ i. slice_get (rising from (kinds - from) (t i)) (skip + r))
          ∙ skipped_stands from first kinds size skip (skip + r) r c.0 c.1 f refl
          ∙ first_stands first kinds size r c.1 w);
    }

pub ranked_all : (kinds number place from : ℕ) (ops : List ℕ) → IsRanked kinds number place from ops
    → place ≡ length ops → slice_get (multisets kinds (length ops)) number ≡ Some ops
ranked_all kinds number place from ops h e =
    let z : length ops - place ≡ 0 = omega arith in
    let one : multichoose (kinds - from) (length ops - place) ≡ 1 =
    ap (multichoose (kinds - from)) z ∙ multichoose-zero (kinds - from) in
    let w : 0 < multichoose (kinds - from) (length ops - place) = omega (arith, one) in
    ap (λ ts. slice_get ts number) (multisets_are_rising kinds (length ops))
    ∙ ap (slice_get (rising 0 kinds (length ops))) (sym (add-zero number)) ∙ h.there 0 w
    ∙ ap (option_map (λ xs. take place ops ++ xs)) (none_left from (kinds - from) (length ops - place) 0 z w)
    ∙ ap Some (append-nil (take place ops) ∙ ap (λ n. take n ops) e ∙ take-length ops)

pub ranked_fits : (kinds number place from skip rest : ℕ) (ops : List ℕ) → IsRanked kinds number place from ops
    → kinds ≤ 64 → length ops ≤ 6 → skip + rest ≡ multichoose (kinds - from) (length ops - place)
    → number + skip < 2 ^ 64
ranked_fits kinds number place from skip rest ops h k l e =
    let s = h.small in
    let b = multichoose_small kinds (length ops) (omega arith) l in
    omega (arith, s, b, e)
