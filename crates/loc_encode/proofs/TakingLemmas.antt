-- The chain of a taker, source by source.
use Rattle.std.proofs.Common.{◌≡◌, ℕ, ◌+◌, ◌<◌, ◌≤◌, Bool, true, false, List, [], ◌∷◌, Option, Some, None}
use Rattle.std.proofs.Common.{refl, sym, ap, ◌∙◌, subst, arith, slice_get, length, map, drop, unwrap_or}
use Rattle.std.specs.Prelude.{option_map, IfSome, fold, if◌then◌else◌}
use Rattle.std.proofs.lemmas.List.{drop_more, drop_all}
use Rattle.std.proofs.lemmas.Option.{slice_get_within, get_or_from_slice_get}
use Rattle.bv_terms.specs.declared.op.TermId.{TermId}
use Rattle.bv_terms.specs.declared.value.Sort.{Sort}
use Rattle.bv_terms.specs.declared.value.Sort.TheVariants as sort
use Rattle.bv_terms.specs.Sorts.{same_sort, HasSort}
use Rattle.std.proofs.Math.Nat.{one-le-pow}
use Rattle.std.specs.List.{AllByRecursion}
use Rattle.bv_terms.specs.Table.{Table, term_at, Extends, IsTable}
use Rattle.bv_terms.specs.Term.{Term}
use Rattle.bv_terms.specs.WellSorted.{sort_of}
use Rattle.bv_terms.proofs.SignatureLemmas.{same_sort-true}
use Rattle.bv_terms.proofs.GraftLemmas.{Extends-itself, Extends-further, Extends-term, Extends-longer}
use Rattle.list_lemmas.proofs.Lookups.{All-slice_get}
use Rattle.loc_encode.specs.declared.taking.Named.{Named}
use Rattle.loc_encode.specs.declared.taking.Taker.{Taker}
use Rattle.loc_encode.specs.Lines.{Sourced, sourced, taken, or_source, some_value, taken_term, IsPlain, IsProper, IsIn}
use Rattle.loc_encode.specs.Lines.{AreIn}
use Rattle.loc_encode.proofs.GrowthLemmas.{sourced-same}
use Rattle.loc_encode.specs.Building.{constant_term}
use Rattle.loc_encode.specs.Taking.{CanTake}
use Rattle.loc_encode.proofs.BuildingLemmas.{sort-choice, sort-constant}

-- ---- source by source

pub record IsTaking (old table : Table) (t : Taker) (s : Sort) (sources : List Named) (i : ℕ)
    (found : Option TermId) : Type 0 where
  pub is_table : IsTable table
  pub extends : Extends old table
  pub whole : fold (or_source t s) (option_map (term_at table) found) (map (sourced old) (drop i sources))
      ≡ fold (or_source t s) None (map (sourced old) sources)
  pub there : IfSome found (λ id. id.0 < length table.nodes)
  pub sorted : IfSome found (λ id. sort_of table.pointer (term_at table id) ≡ Some s)

pub IsTaking-start : (table : Table) (t : Taker) (s : Sort) (sources : List Named) → IsTable table
    → IsTaking table table t s sources 0 None
IsTaking-start table t s sources is = record {
  is_table = is;
  extends = Extends-itself table;
  whole = refl;
  there = tt;
  sorted = tt;
}

next : (old : Table) (sources : List Named) (i : ℕ) (e : Named) → slice_get sources i ≡ Some e
    → map (sourced old) (drop i sources) ≡ sourced old e ∷ map (sourced old) (drop (i + 1) sources)
next old sources i e at = ap (map (sourced old)) (drop_at sources i e at)
  where
    drop_at : (xs : List Named) (i : ℕ) (x : Named) → slice_get xs i ≡ Some x → drop i xs ≡ x ∷ drop (i + 1) xs
    drop_at xs i x h =
        drop_more xs i x (slice_get_within xs i x h)
        ∙ ap (λ y. y ∷ drop (i + 1) xs) (get_or_from_slice_get xs i x x h)

pub IsTaking-skip : (old table : Table) (t : Taker) (s : Sort) (sources : List Named) (i : ℕ) (found : Option TermId)
    (e : Named) → slice_get sources i ≡ Some e → same_sort e.sort s ≡ false
    → IsTaking old table t s sources i found → IsTaking old table t s sources (i + 1) found
IsTaking-skip old table t s sources i found e at other is = record {
  is_table = is.is_table;
  extends = is.extends;
  whole =
      ap (λ acc. fold (or_source t s) acc (map (sourced old) (drop (i + 1) sources)))
      (sym (ap (λ b. if b then Some (taken t so_far (sourced old e)) else so_far) other))
      ∙ sym (ap (fold (or_source t s) so_far) (next old sources i e at)) ∙ is.whole;
  there = is.there;
  sorted = is.sorted;
}
  where
    so_far : Option Term
    so_far = option_map (term_at table) found

pub CanTake-from : (old table : Table) (t : Taker) (s : Sort) (sources : List Named) (i : ℕ) (found : Option TermId)
    (e : Named) → slice_get sources i ≡ Some e → same_sort e.sort s ≡ true → AreIn old sources
    → IsTaking old table t s sources i found → CanTake table e found
CanTake-from old table t s sources i found e at same are is =
    let here : IsIn old e = All-slice_get (IsIn old) sources i e are at in
    let proper = here.proper in
    let there = here.there in
    let sorts : s ≡ e.sort = sym (same_sort-true e.sort s same) in
    record {
      there = omega (arith, there, Extends-longer old table is.extends);
      plain = proper.plain;
      sorted =
          (λ j. sort_of (is.extends.pointer j) (Extends-term old table is.extends e.term there j)) ∙ proper.sorted;
      others_there = is.there;
      others_sorted =
          subst (λ r. IfSome found (λ id. sort_of table.pointer (term_at table id) ≡ Some r)) sorts is.sorted;
    }

-- the sort of the chain
taken-sorted : (p : ℕ) (t : Taker) (others : Option Term) (e : Sourced) → IsProper p e
    → IfSome others (λ u. sort_of p u ≡ Some e.sort) → sort_of p (taken t others e) ≡ Some e.sort
taken-sorted p t None e is h = is.sorted
taken-sorted p t (Some u) e is h = sort-choice p _ e.term u e.sort is.plain is.sorted h

others-sorted : (p : ℕ) (table : Table) (found : Option TermId) (s r : Sort) → table.pointer ≡ p → s ≡ r
    → IfSome found (λ id. sort_of table.pointer (term_at table id) ≡ Some s)
    → IfSome (option_map (term_at table) found) (λ u. sort_of p u ≡ Some r)
others-sorted p table None s r e k h = tt
others-sorted p table (Some id) s r e k h = ap (λ q. sort_of q (term_at table id)) (sym e) ∙ h ∙ ap Some k

pub IsTaking-more : (old table new : Table) (t : Taker) (s : Sort) (sources : List Named) (i : ℕ)
    (found : Option TermId) (e : Named) (id : TermId) → slice_get sources i ≡ Some e → same_sort e.sort s ≡ true
    → AreIn old sources → IsTaking old table t s sources i found → IsTable new → Extends table new
    → id.0 < length new.nodes
    → term_at new id ≡ taken t (option_map (term_at table) found) (sourced table e)
    → IsTaking old new t s sources (i + 1) (Some id)
IsTaking-more old table new t s sources i found e id at same are is is_new more within term =
    let so_far : Option Term = option_map (term_at table) found in
    let here : IsIn old e = All-slice_get (IsIn old) sources i e are at in
    let proper = here.proper in
    let there = here.there in
    let made : term_at new id ≡ taken t so_far (sourced old e) =
    term ∙ ap (taken t so_far) (sourced-same old table is.extends e there) in
    let sorts : e.sort ≡ s = same_sort-true e.sort s same in
    let pointer : new.pointer ≡ old.pointer = more.pointer ∙ is.extends.pointer in
    record {
      is_table = is_new;
      extends = Extends-further old table new is.extends more;
      whole =
          ap (λ acc. fold (or_source t s) acc (map (sourced old) (drop (i + 1) sources)))
          (ap Some made ∙ sym (ap (λ b. if b then Some (taken t so_far (sourced old e)) else so_far) same))
          ∙ sym (ap (fold (or_source t s) so_far) (next old sources i e at)) ∙ is.whole;
      there = within;
      sorted =
          (λ j. sort_of (pointer j) (made j))
          ∙ taken-sorted old.pointer t so_far (sourced old e) proper
          (others-sorted old.pointer table found s e.sort is.extends.pointer (sym sorts) is.sorted)
          ∙ ap Some sorts;
    }

-- the term at the end
pub taken-end : (old table : Table) (t : Taker) (s : Sort) (sources : List Named) (i : ℕ) (found : Option TermId)
    → IsTaking old table t s sources i found → length sources ≤ i
    → unwrap_or (option_map (term_at table) found) (constant_term (some_value s))
    ≡ taken_term t s (map (sourced old) sources)
taken-end old table t s sources i found is l =
    ap (λ o. unwrap_or o (constant_term (some_value s)))
    (sym (ap (λ (xs : List Named). fold (or_source t s) (option_map (term_at table) found) (map (sourced old) xs))
    (drop_all i sources l)) ∙ is.whole)

-- some value of a sort that has values
pub some_value-sorted : (s : Sort) → IsPlain s → HasSort s (some_value s)
some_value-sorted sort.Bool h = tt
some_value-sorted (sort.Bits w) h = (refl, one-le-pow w 2 (omega arith))
some_value-sorted sort.Mem h = absurd (h.plain refl)

-- the chain is of its sort
or_source-sorted : (p : ℕ) (t : Taker) (s : Sort) (e : Sourced) (b : Bool) → same_sort e.sort s ≡ b → IsProper p e
    → (others : Option Term) → IfSome others (λ u. sort_of p u ≡ Some s)
    → IfSome (if b then Some (taken t others e) else others) (λ u. sort_of p u ≡ Some s)
or_source-sorted p t s e false same is others h = h
or_source-sorted p t s e true same is others h =
    let sorts : e.sort ≡ s = same_sort-true e.sort s same in
    taken-sorted p t others e is (subst (λ r. IfSome others (λ u. sort_of p u ≡ Some r)) (sym sorts) h)
    ∙ ap Some sorts

fold-sorted : (p : ℕ) (t : Taker) (s : Sort) (sources : List Sourced) → AllByRecursion (IsProper p) sources
    → (others : Option Term) → IfSome others (λ u. sort_of p u ≡ Some s)
    → IfSome (fold (or_source t s) others sources) (λ u. sort_of p u ≡ Some s)
fold-sorted p t s [] are others h = h
fold-sorted p t s (e ∷ es) are others h =
    fold-sorted p t s es are.1 (or_source t s others e)
    (or_source-sorted p t s e (same_sort e.sort s) refl are.0 others h)

pub taken_term-sorted : (p : ℕ) (t : Taker) (s : Sort) (sources : List Sourced) → AllByRecursion (IsProper p) sources
    → IsPlain s → sort_of p (taken_term t s sources) ≡ Some s
taken_term-sorted p t s sources are plain =
    by (fold (or_source t s) None sources) (fold-sorted p t s sources are None tt)
  where
    by : (o : Option Term) → IfSome o (λ u. sort_of p u ≡ Some s)
        → sort_of p (unwrap_or o (constant_term (some_value s))) ≡ Some s
    by None h = sort-constant p (some_value s) s (some_value-sorted s plain) plain.sized
    by (Some u) h = h
