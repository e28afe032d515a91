-- Lists of nodes whose table grows while they do.
use Rattle.std.proofs.Common.{◌≡◌, ◌<◌, List, [], ◌∷◌, ◌++◌, All, length, map}
use Rattle.std.proofs.Common.{refl, sym, ap, ◌∙◌, subst, arith, append_assoc}
use Rattle.std.specs.List.{AllByRecursion}
use Rattle.std.proofs.lemmas.List.{append-nil}
use Rattle.std.proofs.lemmas.List.Elements.{All-weaker, All-push, All-nil, recursion_from_All}
use Rattle.bv_terms.specs.Term.{Term}
use Rattle.bv_terms.specs.Table.{Table, term_at, Extends, IsTable}
use Rattle.bv_terms.specs.WellSorted.{sort_of}
use Rattle.bv_terms.proofs.GraftLemmas.{Extends-itself, Extends-further, Extends-term, Extends-longer}
use Rattle.list_lemmas.proofs.Lists.{map-push}
use Rattle.loc_encode.specs.declared.taking.Named.{Named}
use Rattle.loc_encode.specs.Lines.{Sourced, sourced, IsProper, IsIn, OfKind, of_kind, IsId}
use Rattle.loc_encode.specs.Making.{IsKindIn}

-- ---- what a longer table keeps

-- what stands in a table stands in each longer one, as it was
pub record Keeps {A B : Type 0} (In : Table → A → Type 0) (view : Table → A → B) : Type 0 where
  pub stays : (old new : Table) → Extends old new → (a : A) → In old a → In new a
  pub same : (old new : Table) → Extends old new → (a : A) → In old a → view new a ≡ view old a

pub sourced-same : (old new : Table) → Extends old new → (e : Named) → e.term.0 < length old.nodes
    → sourced new e ≡ sourced old e
sourced-same old new more e l =
    ap (λ (t : Term). let r : Sourced = record { source = e.source; sort = e.sort; term = t } in r)
    (Extends-term old new more e.term l)

pub ids_keep : Keeps IsId term_at
ids_keep = record {
  stays = λ old new more id h. omega (arith, h, Extends-longer old new more);
  same = λ old new more id h. Extends-term old new more id h;
}

pub sources_keep : Keeps IsIn sourced
sources_keep = record {
  stays =
      λ old new more e h. record {
        there = omega (arith, h.there, Extends-longer old new more);
        proper = record {
          plain = h.proper.plain;
          sorted =
              (λ i. sort_of (more.pointer i) (Extends-term old new more e.term h.there i)) ∙ h.proper.sorted;
        };
      };
  same = λ old new more e h. sourced-same old new more e h.there;
}

pub kinds_keep : Keeps IsKindIn of_kind
kinds_keep = record {
  stays =
      λ old new more k h. record {
        there = omega (arith, h.there, Extends-longer old new more);
        plain = h.plain;
        sorted = (λ i. sort_of (more.pointer i) (Extends-term old new more k.term h.there i)) ∙ h.sorted;
      };
  same =
      λ old new more k h. ap
      (λ (t : Term). let r : OfKind = record { op = k.op; result = k.result; sort = k.sort; term = t } in r)
      (Extends-term old new more k.term h.there);
}

pub all-stay : {A B : Type 0} (In : Table → A → Type 0) (view : Table → A → B) → Keeps In view → (old new : Table)
    → Extends old new → (xs : List A) → All (In old) xs → All (In new) xs
all-stay In view keeps old new more xs all = All-weaker (In old) (In new) (keeps.stays old new more) xs all

pub all-same : {A B : Type 0} (In : Table → A → Type 0) (view : Table → A → B) → Keeps In view → (old new : Table)
    → Extends old new → (xs : List A) → All (In old) xs → map (view new) xs ≡ map (view old) xs
all-same {A} {B} In view keeps old new more xs all = by xs (recursion_from_All (In old) xs all)
  where
    by : (xs : List A) → AllByRecursion (In old) xs → map (view new) xs ≡ map (view old) xs
    by [] all = refl
    by (x ∷ xs) all = λ i. keeps.same old new more x all.0 i ∷ by xs all.1 i

pub each_proper : (table : Table) (xs : List Named) → All (IsIn table) xs
    → AllByRecursion (IsProper table.pointer) (map (sourced table) xs)
each_proper table xs all = by xs (recursion_from_All (IsIn table) xs all)
  where
    by : (xs : List Named) → AllByRecursion (IsIn table) xs
        → AllByRecursion (IsProper table.pointer) (map (sourced table) xs)
    by [] all = tt
    by (x ∷ xs) all = (all.0.proper, by xs all.1)

-- ---- lists that grow

-- what stands in the table so far, and what is still to be made of the whole
pub record IsListing {A B : Type 0} (In : Table → A → Type 0) (view : Table → A → B) (old table : Table) (xs : List A)
    (rest whole : List B) : Type 0 where
  pub is_table : IsTable table
  pub extends : Extends old table
  pub all : All (In table) xs
  pub whole_is : map (view table) xs ++ rest ≡ whole

pub IsListing-start : {A B : Type 0} (In : Table → A → Type 0) (view : Table → A → B) (table : Table) (xs : List A)
    (rest : List B) → IsTable table → All (In table) xs
    → IsListing In view table table xs rest (map (view table) xs ++ rest)
IsListing-start In view table xs rest is all = record {
  is_table = is;
  extends = Extends-itself table;
  all = all;
  whole_is = refl;
}

pub IsListing-none : {A B : Type 0} (In : Table → A → Type 0) (view : Table → A → B) (table : Table) (xs : List A)
    (rest : List B) → IsTable table → xs ≡ [] → IsListing In view table table xs rest rest
IsListing-none {A} In view table xs rest is none =
    subst (λ (xs : List A). IsListing In view table table xs rest rest) (sym none) (record {
      is_table = is;
      extends = Extends-itself table;
      all = All-nil (In table);
      whole_is = refl;
    })

-- one more
pub IsListing-more : {A B : Type 0} (In : Table → A → Type 0) (view : Table → A → B) → Keeps In view
    → (old table new : Table) (xs ys : List A) (x : A) (y : B) (left rest whole : List B)
    → IsListing In view old table xs left whole → left ≡ y ∷ rest → IsTable new → Extends table new → In new x
    → view new x ≡ y → ys ≡ xs ++ x ∷ [] → IsListing In view old new ys rest whole
IsListing-more {A} In view keeps old table new xs ys x y left rest whole is front is_new more here same grown =
    let f = view new in
    record {
      is_table = is_new;
      extends = Extends-further old table new is.extends more;
      all =
          subst (λ (ys : List A). All (In new) ys) (sym grown)
          (All-push (In new) xs x (all-stay In view keeps table new more xs is.all) here);
      whole_is =
          ap (λ (zs : List A). map f zs ++ rest) grown ∙ ap (λ zs. zs ++ rest) (map-push f xs x)
          ∙ append_assoc (map f xs) (f x ∷ []) rest
          ∙ (λ i. all-same In view keeps table new more xs is.all i ++ same i ∷ rest)
          ∙ sym (ap (λ zs. map (view table) xs ++ zs) front) ∙ is.whole_is;
    }

-- several more, by a call that adds them
pub IsListing-several : {A B : Type 0} (In : Table → A → Type 0) (view : Table → A → B)
    → (old table new : Table) (xs ys : List A) (left front rest whole : List B)
    → IsListing In view old table xs left whole → left ≡ front ++ rest → IsTable new → Extends table new
    → All (In new) ys → map (view new) ys ≡ map (view table) xs ++ front → IsListing In view old new ys rest whole
IsListing-several In view old table new xs ys left front rest whole is cut is_new more all grown = record {
  is_table = is_new;
  extends = Extends-further old table new is.extends more;
  all = all;
  whole_is =
      ap (λ zs. zs ++ rest) grown ∙ append_assoc (map (view table) xs) front rest
      ∙ sym (ap (λ zs. map (view table) xs ++ zs) cut) ∙ is.whole_is;
}

pub IsListing-end : {A B : Type 0} (In : Table → A → Type 0) (view : Table → A → B) (old table : Table) (xs : List A)
    (rest whole : List B) → IsListing In view old table xs rest whole → rest ≡ [] → map (view table) xs ≡ whole
IsListing-end In view old table xs rest whole is none =
    sym (append-nil (map (view table) xs)) ∙ sym (ap (λ zs. map (view table) xs ++ zs) none) ∙ is.whole_is
