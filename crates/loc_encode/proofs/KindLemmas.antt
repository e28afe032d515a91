-- The kinds of a line, one by one.
use Rattle.std.proofs.Common.{◌≡◌, ℕ, zero, suc, ◌+◌, ◌<◌, ◌≤◌, Bool, true, false, List, [], ◌∷◌, ◌++◌, Some, None}
use Rattle.std.proofs.Common.{refl, sym, ap, ◌∙◌, subst, arith, slice_get, slice_set, length, map, drop, take, get_or}
use Rattle.std.proofs.Common.{Contains, ⊎_elim, cond}
use Rattle.std.specs.Prelude.{fold, if◌then◌else◌, position, nat_lt}
use Rattle.std.proofs.lemmas.List.Sums.{fails_before_first}
use Rattle.list_lemmas.proofs.Numbers.{not_less}
use Rattle.std.proofs.lemmas.List.{drop_more, drop_all, take_more}
use Rattle.std.proofs.lemmas.List.Elements.{All-nil, All-append, All-from_recursion, Contains-append_cases}
use Rattle.std.proofs.lemmas.List.Elements.{Contains-append_left, Contains-append_right}
use Rattle.std.proofs.lemmas.List.Quantifiers.{position-Some}
use Rattle.std.proofs.lemmas.Option.{slice_get_within, get_or_from_slice_get, slice_get-get_or, same_Some, none-some}
use Rattle.std.specs.List.{AllByRecursion, position_or_len}
use Rattle.std.specs.Prelude.{Result, Ok, Err, OnOk}
use Rattle.std.specs.Result.{is_ok}
use Rattle.std.proofs.lemmas.List.{map-append}
use Rattle.isel_spec.specs.File.{File}
use Rattle.bv_terms.specs.declared.op.TermId.{TermId}
use Rattle.bv_terms.specs.Sorts.{same_sort}
use Rattle.bv_terms.specs.Table.{Table, term_at, Extends, IsTable}
use Rattle.bv_terms.specs.WellSorted.{sort_of}
use Rattle.bv_terms.proofs.SignatureLemmas.{same_sort-true}
use Rattle.bv_terms.proofs.GraftLemmas.{Extends-itself, Extends-further}
use Rattle.list_lemmas.proofs.Bools.{and_right}
use Rattle.list_lemmas.proofs.Lookups.{All-slice_get, only_one}
use Rattle.pattern_core.specs.declared.pattern.Src.TheVariants.{Out}
use Rattle.pattern_core.specs.Pattern.{same_source}
use Rattle.loc_encode.specs.declared.slots.Slot.TheVariants as slot
use Rattle.loc_encode.specs.declared.taking.Named.{Named}
use Rattle.loc_encode.specs.declared.lines.Kinded.{Kinded}
use Rattle.loc_encode.specs.Slots.{slot_number}
use Rattle.loc_encode.specs.Building.{choice_term, IsOneSort}
use Rattle.loc_encode.specs.Lines.{Sourced, sourced, IsIn, AreIn, of_kind, is_named, with_kind}
use Rattle.loc_encode.specs.Lines.{line_kinds, with_line}
use Rattle.loc_encode.specs.Making.{IsKindIn, AreKindsIn}
use Rattle.loc_encode.proofs.BuildingLemmas.{sort-choice}
use Rattle.loc_encode.proofs.GrowthLemmas.{sources_keep, kinds_keep, all-stay, all-same}

-- ---- each operation once

-- lists with the same members
pub record HaveSame (xs ys : List ℕ) : Type 0 where
  pub to : (x : ℕ) → Contains xs x → Contains ys x
  pub from : (x : ℕ) → Contains ys x → Contains xs x

pub HaveSame-none : (xs : List ℕ) → xs ≡ [] → HaveSame xs []
HaveSame-none xs e = subst (λ (zs : List ℕ). HaveSame zs []) (sym e) (record { to = λ x h. h; from = λ x h. h })

pub HaveSame-new : (xs zs ys : List ℕ) (i d : ℕ) → i < length ys → zs ≡ xs ++ get_or ys i d ∷ []
    → HaveSame xs (take i ys) → HaveSame zs (take (i + 1) ys)
HaveSame-new xs zs ys i d l grown same =
    let x : ℕ = get_or ys i d in
    subst (λ (zs : List ℕ). HaveSame zs (take (i + 1) ys)) (sym grown)
    (subst (HaveSame (xs ++ x ∷ [])) (sym (take_more ys i d l)) (record {
      to =
          λ z h. ⊎_elim (λ a. Contains-append_left (take i ys) (x ∷ []) z (same.to z a))
          (λ b. Contains-append_right (take i ys) (x ∷ []) z b) (Contains-append_cases xs (x ∷ []) z h);
      from =
          λ z h. ⊎_elim (λ a. Contains-append_left xs (x ∷ []) z (same.from z a))
          (λ b. Contains-append_right xs (x ∷ []) z b) (Contains-append_cases (take i ys) (x ∷ []) z h);
    }))

pub HaveSame-old : (xs ys : List ℕ) (i d : ℕ) → i < length ys → Contains xs (get_or ys i d)
    → HaveSame xs (take i ys) → HaveSame xs (take (i + 1) ys)
HaveSame-old xs ys i d l here same =
    let x : ℕ = get_or ys i d in
    subst (HaveSame xs) (sym (take_more ys i d l)) (record {
      to = λ z h. Contains-append_left (take i ys) (x ∷ []) z (same.to z h);
      from =
          λ z h. ⊎_elim (λ a. same.from z a) (λ b. subst (Contains xs) (only_one x z b) here)
          (Contains-append_cases (take i ys) (x ∷ []) z h);
    })

-- ---- a kind among the sources of a line

-- a source that is taken where its kind is chosen
abbrev pub merged : Table → ℕ → Kinded → Named → Sourced
merged table line k e = record {
  source = e.source;
  sort = e.sort;
  term = choice_term (slot_number (slot.Kind line k.op)) (term_at table k.term) (term_at table e.term);
}

pub set_kind : (old new : Table) → Extends old new → (line : ℕ) (k : Kinded) (xs : List Named) (i : ℕ) (e m : Named)
    → AllByRecursion (IsIn old) xs → ((j : ℕ) → j < i → is_named line k (get_or xs j e) ≡ false)
    → slice_get xs i ≡ Some e → is_named line k e ≡ true → sourced new m ≡ merged old line k e
    → map (sourced new) (slice_set xs i m) ≡ with_kind line (map (sourced old) xs) (of_kind old k)
set_kind old new more line k [] i e m all before at here same = absurd (none-some e at)
set_kind old new more line k (x ∷ xs) zero e m all before at here same =
    let first : x ≡ e = same_Some x e at in
    let test : is_named line k x ≡ true = ap (is_named line k) first ∙ here in
    (λ j. (same ∙ ap (merged old line k) (sym first)) j
    ∷ all-same IsIn sourced sources_keep old new more xs (All-from_recursion (IsIn old) xs all.1) j)
    ∙ sym (ap (λ b. if b then merged old line k x ∷ map (sourced old) xs
    else sourced old x ∷ with_kind line (map (sourced old) xs) (of_kind old k)) test)
set_kind old new more line k (x ∷ xs) (suc i) e m all before at here same =
    let test : is_named line k x ≡ false = before zero (omega arith) in
    let rest = set_kind old new more line k xs i e m all.1 (λ j l. before (suc j) (omega (arith, l))) at here same in
    (λ j. sources_keep.same old new more x all.0 j ∷ rest j)
    ∙ sym (ap (λ b. if b then merged old line k x ∷ map (sourced old) xs
    else sourced old x ∷ with_kind line (map (sourced old) xs) (of_kind old k)) test)

-- a kind that is a source of its own
abbrev pub alone : ℕ → Kinded → Named
alone line k = record { source = Out line k.result; sort = k.sort; term = k.term }

pub push_kind : (table : Table) (line : ℕ) (k : Kinded) (xs : List Named) (d : Named)
    → ((j : ℕ) → j < length xs → is_named line k (get_or xs j d) ≡ false)
    → map (sourced table) (xs ++ alone line k ∷ []) ≡ with_kind line (map (sourced table) xs) (of_kind table k)
push_kind table line k [] d none = refl
push_kind table line k (x ∷ xs) d none =
    let test : is_named line k x ≡ false = none zero (omega arith) in
    let rest = push_kind table line k xs d (λ j l. none (suc j) (omega (arith, l))) in
    ap (λ zs. sourced table x ∷ zs) rest
    ∙ sym (ap (λ b. if b then merged table line k x ∷ map (sourced table) xs
    else sourced table x ∷ with_kind line (map (sourced table) xs) (of_kind table k)) test)

-- no place is none of the elements
past_end : (b : Bool) (k : ℕ) → cond b (Some k) None ≡ None → b ≡ false
past_end true k h = cc
past_end false k h = refl

pub nowhere : (p : Named → Bool) (xs : List Named) (d : Named) → position p xs ≡ None → (j : ℕ) → j < length xs
    → p (get_or xs j d) ≡ false
nowhere p xs d h j l =
    let first = position_or_len p xs in
    let none : length xs ≤ first = not_less first (length xs) (past_end (nat_lt first (length xs)) first h) in
    fails_before_first p xs j d (omega (arith, none, l))

-- the first place of one
pub record IsFound (line : ℕ) (k : Kinded) (xs : List Named) (i : ℕ) (e : Named) : Type 0 where
  pub at : slice_get xs i ≡ Some e
  pub test : is_named line k e ≡ true
  pub before : (j : ℕ) → j < i → is_named line k (get_or xs j e) ≡ false

pub found-at : (line : ℕ) (k : Kinded) (xs ys : List Named) (i : ℕ) (e : Named) → ys ≡ xs
    → position (is_named line k) ys ≡ Some i → e ≡ get_or xs i e → IsFound line k xs i e
found-at line k xs ys i e same h here =
    let found = position-Some (is_named line k) xs i e (ap (position (is_named line k)) (sym same) ∙ h) in
    record {
      at = slice_get-get_or xs i e found.0 ∙ ap Some (sym here);
      test = ap (is_named line k) here ∙ found.1;
      before = found.2;
    }

pub merged-made : (old new : Table) (line : ℕ) (k : Kinded) (e : Named) (id : TermId)
    → term_at new id ≡ choice_term (slot_number (slot.Kind line k.op)) (term_at old k.term) (term_at old e.term)
    → sourced new (record { source = e.source; sort = e.sort; term = id }) ≡ merged old line k e
merged-made old new line k e id term = λ i. record { source = e.source; sort = e.sort; term = term i }

-- what the choice between a kind and a source needs, and gives
pub named-sort : (line : ℕ) (k : Kinded) (e : Named) → is_named line k e ≡ true → e.sort ≡ k.sort
named-sort line k e h =
    same_sort-true e.sort k.sort (and_right (same_source e.source (Out line k.result)) (same_sort e.sort k.sort) h)

pub kind-sorts : (table : Table) (line : ℕ) (k : Kinded) (e : Named) → is_named line k e ≡ true → IsKindIn table k
    → IsIn table e → IsOneSort table k.term e.term
kind-sorts table line k e test here is = record {
  one = e.sort;
  plain = is.proper.plain;
  there = here.there;
  other_there = is.there;
  sorted = here.sorted ∙ ap Some (sym (named-sort line k e test));
  other_sorted = is.proper.sorted;
}

pub kind-in : (old new : Table) (line : ℕ) (k : Kinded) (e : Named) (id : TermId) → is_named line k e ≡ true
    → IsKindIn old k → IsIn old e → Extends old new → id.0 < length new.nodes
    → term_at new id
    ≡ choice_term (slot_number (slot.Kind line k.op)) (term_at old k.term) (term_at old e.term)
    → IsIn new (record { source = e.source; sort = e.sort; term = id })
unfolding kind-sorts
kind-in old new line k e id test here is more within term =
    let sorts = kind-sorts old line k e test here is in
    record {
      there = within;
      proper = record {
        plain = is.proper.plain;
        sorted =
            (λ i. sort_of (more.pointer i) (term i))
            ∙ sort-choice old.pointer (slot_number (slot.Kind line k.op)) (term_at old k.term) (term_at old e.term)
            e.sort sorts.plain sorts.sorted sorts.other_sorted;
      };
    }

-- ---- all kinds of a line

pub record IsMerging (old table : Table) (line : ℕ) (kinds : List Kinded) (i : ℕ) (found : List Named) : Type 0 where
  pub is_table : IsTable table
  pub extends : Extends old table
  pub all : AreIn table found
  pub whole : fold (with_kind line) (map (sourced table) found) (map (of_kind old) (drop i kinds))
      ≡ fold (with_kind line) [] (map (of_kind old) kinds)

pub IsMerging-start : (table : Table) (line : ℕ) (kinds : List Kinded) (found : List Named) → IsTable table
    → found ≡ [] → IsMerging table table line kinds 0 found
IsMerging-start table line kinds found is none =
    subst (IsMerging table table line kinds 0) (sym none) (record {
      is_table = is;
      extends = Extends-itself table;
      all = All-nil (IsIn table);
      whole = refl;
    })

pub IsMerging-kind : (old table : Table) (line : ℕ) (kinds : List Kinded) (i : ℕ) (found : List Named) (k : Kinded)
    → IsMerging old table line kinds i found → AreKindsIn old kinds → slice_get kinds i ≡ Some k → IsKindIn table k
IsMerging-kind old table line kinds i found k is all at =
    kinds_keep.stays old table is.extends k (All-slice_get (IsKindIn old) kinds i k all at)

pub IsMerging-more : (old table new : Table) (line : ℕ) (kinds : List Kinded) (i : ℕ) (found more : List Named)
    (k : Kinded) → IsMerging old table line kinds i found → AreKindsIn old kinds → slice_get kinds i ≡ Some k
    → IsTable new → Extends table new → AreIn new more
    → map (sourced new) more ≡ with_kind line (map (sourced table) found) (of_kind table k)
    → IsMerging old new line kinds (i + 1) more
IsMerging-more old table new line kinds i found more k is all at is_new extends in_new made =
    let same : of_kind table k ≡ of_kind old k =
    kinds_keep.same old table is.extends k (All-slice_get (IsKindIn old) kinds i k all at) in
    let front : drop i kinds ≡ k ∷ drop (i + 1) kinds =
    drop_more kinds i k (slice_get_within kinds i k at)
    ∙ ap (λ y. y ∷ drop (i + 1) kinds) (get_or_from_slice_get kinds i k k at) in
    record {
      is_table = is_new;
      extends = Extends-further old table new is.extends extends;
      all = in_new;
      whole =
          ap (λ acc. fold (with_kind line) acc (map (of_kind old) (drop (i + 1) kinds)))
          (made ∙ ap (with_kind line (map (sourced table) found)) same)
          ∙ sym (ap (λ (ks : List Kinded). fold (with_kind line) (map (sourced table) found) (map (of_kind old) ks))
          front)
          ∙ is.whole;
    }

pub IsMerging-end : (old table : Table) (line : ℕ) (kinds : List Kinded) (i : ℕ) (found : List Named)
    → IsMerging old table line kinds i found → length kinds ≤ i
    → map (sourced table) found ≡ fold (with_kind line) [] (map (of_kind old) kinds)
IsMerging-end old table line kinds i found is l =
    sym (ap (λ (ks : List Kinded). fold (with_kind line) (map (sourced table) found) (map (of_kind old) ks))
    (drop_all i kinds l)) ∙ is.whole

-- ---- the sources of a line after those before it

on_ok_by : {T E P : Type 0} (r : Result T E) → (is_ok r ≡ true → P) → OnOk r P
on_ok_by (Ok x) f = f refl
on_ok_by (Err e) f = tt

pub line-appended : {T E : Type 0} (f : File) (ops : List ℕ) (old mid new : Table) (line : ℕ)
    (sources slice found all : List Named) (kinds given : List Kinded) → Extends old new → AreIn old sources
    → slice ≡ sources → given ≡ kinds
    → map (of_kind mid) kinds ≡ line_kinds f line (map (sourced old) slice) ops
    → map (sourced new) found ≡ fold (with_kind line) [] (map (of_kind mid) given) → (r : Result T E)
    → all ≡ (if is_ok r then sources ++ found else sources)
    → OnOk r (map (sourced new) all ≡ with_line f ops (map (sourced old) sources) line)
line-appended f ops old mid new line sources slice found all kinds given extends are same_slice same of_kinds of_line r
    grown =
    on_ok_by r (λ yes_ok. ap (map (sourced new)) (grown ∙ ap (λ b. if b then sources ++ found else sources) yes_ok)
    ∙ map-append (sourced new) sources found
    ∙ (λ i. all-same IsIn sourced sources_keep old new extends sources are i ++ (of_line
    ∙ ap (λ (ks : List Kinded). fold (with_kind line) [] (map (of_kind mid) ks)) same
    ∙ ap (fold (with_kind line) []) (of_kinds
    ∙ ap (λ (xs : List Named). line_kinds f line (map (sourced old) xs) ops) same_slice)) i))

pub line-there : {T E : Type 0} (old new : Table) (sources found all : List Named) → Extends old new
    → AreIn old sources → AreIn new found → (r : Result T E)
    → all ≡ (if is_ok r then sources ++ found else sources) → OnOk r (AreIn new all)
line-there old new sources found all extends are in_new r grown =
    on_ok_by r (λ yes_ok. subst (AreIn new) (sym (grown ∙ ap (λ b. if b then sources ++ found else sources) yes_ok))
    (All-append (IsIn new) sources found (all-stay IsIn sourced sources_keep old new extends sources are) in_new))
