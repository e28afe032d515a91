-- A renamed pattern has the same operations and the same results at all values, so that a renaming of a rule is a rule.
use Rattle.std.proofs.Common.{◌≡◌, ℕ, zero, suc, ◌+◌, ◌<◌, Bool, false, List, [], ◌∷◌, length, map, Option, Some, None}
use Rattle.std.proofs.Common.{cond, slice_get, refl, sym, ap, ◌∙◌, subst, inl, inr, arith}
use Rattle.std.specs.Prelude.{unwrap_or, nat_eq, count_by}
use Rattle.std.specs.List.{range_with_len}
use Rattle.std.specs.List.Sorted.{IsPermutation}
use Rattle.std.proofs.lemmas.List.Elements.{All-contains}
use Rattle.std.proofs.lemmas.List.Sorted.{sum_by-IsPermutation}
use Rattle.bv_terms.specs.declared.value.Value.{Value}
use Rattle.bv_terms.specs.declared.value.Value.TheVariants as val
use Rattle.isel_spec.specs.File.{File, Goal}
use Rattle.list_lemmas.proofs.Lookups.{some_at}
use Rattle.list_lemmas.proofs.Members.{In, In-map, In_of_map, In_of_range, In-range, Contains-from_In}
use Rattle.pattern_core.specs.declared.pattern.Src.{Src}
use Rattle.pattern_core.specs.declared.pattern.Src.TheVariants.{Input, Out}
use Rattle.pattern_core.specs.declared.pattern.Node.{Node}
use Rattle.pattern_core.specs.declared.pattern.Pattern.{Pattern}
use Rattle.pattern_core.specs.Order.{multiset}
use Rattle.pattern_core.specs.Pattern.{IsWellFormed}
use Rattle.pattern_core.specs.Renaming.{renamed_sources, renamed_node, IsRenaming}
use Rattle.pattern_core.specs.Rule.{source_value, op_results, outs_from, pattern_results, IsPlainRule}
use Rattle.pattern_core.specs.Walk.{below, IsBefore, AreForward, IsForward, IsCanonical}
use Rattle.pattern_core.proofs.PlaceLemmas.{IsOnce, below-permuted}
use Rattle.loc_encode.proofs.OutsLemmas.{outs-at}
use Rattle.loc_encode.proofs.ReadLemmas.{count-multiset, count-places}
use Rattle.loc_encode.proofs.TallyLemmas.{NeverFalls, NeverFalls-put, same-counts, count-map, count-same}
use Rattle.cegis_loop.specs.Listing.{put_pattern, IsListedBesides}

-- ---- operations

once-range : (a n : ℕ) → IsOnce (range_with_len a n)
once-range a zero = tt
once-range a (suc n) = (
  λ i. let r = In_of_range (a + 1) n a i in absurd (omega (arith, r.0)),
  once-range (a + 1) n,
)

-- numbers that differ are renamed to numbers that differ
once-renamed : (p q : Pattern) (h : IsRenaming p q) (a n : ℕ)
    → ((k : ℕ) → In (range_with_len a n) k → k < length p.nodes) → IsOnce (map h.to (range_with_len a n))
once-renamed p q h a zero within = tt
once-renamed p q h a (suc n) within = (
  λ i. let r = In_of_map h.to (range_with_len (a + 1) n) (h.to a) i in
      let same : r.0 ≡ a =
      sym (h.back r.0 (within r.0 (inr r.1))) ∙ ap h.from r.2 ∙ h.back a (within a (inl refl)) in
      let after = In_of_range (a + 1) n r.0 r.1 in
      absurd (omega (arith, same, after.0)),
  once-renamed p q h (a + 1) n (λ k i. within k (inr i)),
)

-- the numbers of the nodes, and the numbers that these are renamed to
numbers-permuted : (n : ℕ) → IsPermutation (below n) (range_with_len 0 n)
numbers-permuted n =
    below-permuted n (range_with_len 0 n) (once-range 0 n) (λ k i. let r = In_of_range 0 n k i in omega (arith, r.1))
    (λ k l. In-range 0 n k (omega arith) (omega (arith, l)))

renamed-permuted : (p q : Pattern) (h : IsRenaming p q)
    → IsPermutation (below (length p.nodes)) (map h.to (range_with_len 0 (length p.nodes)))
renamed-permuted p q h =
    let n : ℕ = length p.nodes in
    let within : (k : ℕ) → In (range_with_len 0 n) k → k < n =
    λ k i. let r = In_of_range 0 n k i in omega (arith, r.1) in
    below-permuted n (map h.to (range_with_len 0 n)) (once-renamed p q h 0 n within)
    (λ k i. let r = In_of_map h.to (range_with_len 0 n) k i in
    subst (λ m. m < n) r.2 (h.within r.0 (within r.0 r.1)))
    (λ k l. subst (In (map h.to (range_with_len 0 n))) (h.forth k l)
    (In-map h.to (range_with_len 0 n) (h.from k)
    (In-range 0 n (h.from k) (omega arith) (let m = h.from_within k l in omega (arith, m)))))

-- whether there is a node, of this operation
abbrev is_of : ℕ → Option Node → Bool
is_of op None = false
is_of op (Some n) = nat_eq n.op op

count-renamed : (p q : Pattern) → IsRenaming p q → (op : ℕ)
    → count_by (λ (n : Node). nat_eq n.op op) q.nodes ≡ count_by (λ (n : Node). nat_eq n.op op) p.nodes
count-renamed p q h op =
    let n : ℕ = length p.nodes in
    let numbers : List ℕ = range_with_len 0 n in
    let test : ℕ → Bool = λ k. is_of op (slice_get q.nodes k) in
    let weight : ℕ → ℕ = λ k. cond (test k) 1 0 in
    sym (count-places (is_of op) q.nodes) ∙ ap (λ m. count_by test (range_with_len 0 m)) h.size
    ∙ sum_by-IsPermutation weight (below n) numbers (numbers-permuted n)
    ∙ sym (sum_by-IsPermutation weight (below n) (map h.to numbers) (renamed-permuted p q h))
    ∙ count-map test h.to numbers
    ∙ count-same (λ k. test (h.to k)) (λ k. is_of op (slice_get p.nodes k)) numbers same
    ∙ count-places (is_of op) p.nodes
  where
    same : (k : ℕ) → In (range_with_len 0 (length p.nodes)) k
        → is_of op (slice_get q.nodes (h.to k)) ≡ is_of op (slice_get p.nodes k)
    same k i =
        let r = In_of_range 0 (length p.nodes) k i in
        let at = some_at p.nodes k (omega (arith, r.1)) in
        ap (is_of op) (h.nodes k at.0 at.1) ∙ sym (ap (is_of op) at.1)

falls-never : (ns : List Node) → NeverFalls (multiset ns)
falls-never [] = tt
falls-never (n ∷ ns) = NeverFalls-put n.op (multiset ns) (falls-never ns)

pub multiset-renamed : (p q : Pattern) → IsRenaming p q → multiset q.nodes ≡ multiset p.nodes
multiset-renamed p q h =
    same-counts (multiset q.nodes) (multiset p.nodes) (falls-never q.nodes) (falls-never p.nodes) (λ op.
    count-multiset op q.nodes ∙ count-renamed p q h op ∙ sym (count-multiset op p.nodes))

-- ---- results

renamed-values : (inputs : List Value) (to : ℕ → ℕ) (outs renamed : List (List Value)) (ss : List Src)
    → ((a r : ℕ) → In ss (Out a r) → slice_get renamed (to a) ≡ slice_get outs a)
    → map (source_value inputs renamed) (renamed_sources to ss) ≡ map (source_value inputs outs) ss
renamed-values inputs to outs renamed [] same = refl
renamed-values inputs to outs renamed (Input k ∷ ss) same =
    let rest = renamed-values inputs to outs renamed ss (λ a r i. same a r (inr i)) in
    λ i. source_value inputs outs (Input k) ∷ rest i
renamed-values inputs to outs renamed (Out a r ∷ ss) same =
    let first : source_value inputs renamed (Out (to a) r) ≡ source_value inputs outs (Out a r) =
    ap (λ o. unwrap_or (slice_get (unwrap_or o []) r) (val.Bool false)) (same a r (inl refl)) in
    let rest = renamed-values inputs to outs renamed ss (λ b q i. same b q (inr i)) in
    λ i. first i ∷ rest i

-- each node gives under its other number what it gave
same-outs : (f : File) (g : Goal) (inputs : List Value) (p q : Pattern) (h : IsRenaming p q) → IsWellFormed f g p
    → IsWellFormed f g q → AreForward p.nodes → (bound k : ℕ) → k < bound → k < length p.nodes
    → slice_get (outs_from f inputs [] q.nodes) (h.to k) ≡ slice_get (outs_from f inputs [] p.nodes) k
same-outs f g inputs p q h fit fit' forward zero k b l = absurd (omega (arith, b))
same-outs f g inputs p q h fit fit' forward (suc bound) k b l =
    let at = some_at p.nodes k l in
    let n : Node = at.0 in
    outs-at f g inputs q.nodes fit'.nodes (h.to k) (renamed_node h.to n) (h.nodes k n at.1)
    ∙ ap (λ vs. Some (op_results (slice_get f.ops n.op) n.attrs vs))
    (renamed-values inputs h.to (outs_from f inputs [] p.nodes) (outs_from f inputs [] q.nodes) n.args
    (λ a r i.
    let earlier : a < k =
    All-contains (IsBefore k) n.args (Out a r) (forward k n at.1) (Contains-from_In n.args (Out a r) i) in
    same-outs f g inputs p q h fit fit' forward bound a (omega (arith, earlier, b)) (omega (arith, earlier, l))))
    ∙ sym (outs-at f g inputs p.nodes fit.nodes k n at.1)

pub same-results : (f : File) (g : Goal) (inputs : List Value) (p q : Pattern) → IsRenaming p q → IsWellFormed f g p
    → IsWellFormed f g q → IsForward p → pattern_results f q inputs ≡ pattern_results f p inputs
same-results f g inputs p q h fit fit' forward =
    ap (map (source_value inputs (outs_from f inputs [] q.nodes))) h.results
    ∙ renamed-values inputs h.to (outs_from f inputs [] p.nodes) (outs_from f inputs [] q.nodes) p.results
    (λ a r i.
    let there : a < length p.nodes =
    All-contains (IsBefore (length p.nodes)) p.results (Out a r) forward.results
    (Contains-from_In p.results (Out a r) i) in
    same-outs f g inputs p q h fit fit' forward.nodes (length p.nodes) a there there)

pub rule-renamed : (f : File) (g : Goal) (p q : Pattern) → IsRenaming p q → IsWellFormed f g p → IsWellFormed f g q
    → IsForward p → IsPlainRule f g p → IsPlainRule f g q
rule-renamed f g p q h fit fit' forward rule =
    λ inputs sorted. same-results f g inputs p q h fit fit' forward ∙ rule inputs sorted

-- ---- the canonical renaming, listed

-- the list with the one canonical renaming of a copy of a pattern
pub listed-besides : (f : File) (g : Goal) (p copy q : Pattern) (listed more : List Pattern) → copy ≡ p
    → IsWellFormed f g p → IsForward p → IsRenaming copy q → IsCanonical q → IsWellFormed f g q
    → ((r : Pattern) → IsRenaming copy r → IsCanonical r → r ≡ q) → more ≡ put_pattern q listed
    → IsListedBesides f g p listed more
listed-besides f g p copy q listed more same fit forward renaming canonical fit' only put =
    let h : IsRenaming p q = subst (λ (r : Pattern). IsRenaming r q) same renaming in
    record {
      canonical = q;
      put = put;
      is_canonical = canonical;
      renaming = h;
      well_formed = fit';
      ops = multiset-renamed p q h;
      rule = rule-renamed f g p q h fit fit' forward;
      only = λ r k. only r (subst (λ (s : Pattern). IsRenaming s r) (sym same) k);
    }
