-- What a table of names has, by the bytes of the names.
use Rattle.std.proofs.Common.{◌≡◌, ℕ, zero, suc, slice_index_or, ◌<◌, Bool, true, false, cond, List, [], ◌∷◌, ◌++◌, map}
use Rattle.std.proofs.Common.{Option, None, Some, is_some, Contains, Decides, String, refl, sym, ap, ◌∙◌, subst, ⊎_elim}
use Rattle.std.proofs.Common.{arith}
use Rattle.std.specs.Map.{lookup}
use Rattle.std.specs.Str.{bytes_eq}
use Rattle.std.specs.String.{string_bytes, string_eq}
use Rattle.std.proofs.lemmas.Bool.{false≢true}
use Rattle.std.proofs.lemmas.List.Elements.{Contains-get_or, Contains-append_right, Contains-append_cases}
use Rattle.std.proofs.lemmas.Slice.Eq.{bytes_eq-Decides}
use Rattle.collections.specs.Named.{named}
use Rattle.indexmap.specs.IndexMap.{IndexMap, insert_entry}
use Rattle.indexmap.proofs.CallerLemmas.{insert_entry-new}

-- the only element of a list of one
Contains-one : (n bs : List ℕ) → Contains (n ∷ []) bs → n ≡ bs
Contains-one n bs w = at w.0 w.1 w.2
  where
    at : (k : ℕ) → k < 1 → slice_index_or (n ∷ []) k bs ≡ bs → n ≡ bs
    at zero lt e = e
    at (suc k) lt e = absurd (omega arith)

abbrev pub names : {T : Type 0} → List (List ℕ × T) → List (List ℕ)
names ps = map (λ p. p.0) ps

module _ {Y T : Type 0} where
  -- the entries as contracts see them
  abbrev pub pairs : List (String Y × T) → List (List ℕ × T)
  pairs es = map (λ e. (string_bytes e.0, e.1)) es

  -- the value of the first entry with this name
  abbrev pub found : List (String Y × T) → List ℕ → Option T
  found es bs = lookup (λ k. bytes_eq bs (string_bytes k)) es

  -- one more entry in front
  step : (e : String Y × T) (es : List (String Y × T)) (bs : List ℕ) (b : Bool) → bytes_eq bs (string_bytes e.0) ≡ b
      → Decides (is_some (found es bs)) (Contains (names (pairs es)) bs)
      → Decides (is_some (cond b (Some e.1) (found es bs))) (Contains (string_bytes e.0 ∷ names (pairs es)) bs)
  step e es bs true same rest = (
    λ _. subst (Contains (string_bytes e.0 ∷ names (pairs es))) (sym ((bytes_eq-Decides bs (string_bytes e.0)).0 same))
        (Contains-get_or (string_bytes e.0 ∷ names (pairs es)) 0 bs (omega arith)),
    λ _. refl,
  )
  step e es bs false other rest = (
    λ t. Contains-append_right (string_bytes e.0 ∷ []) (names (pairs es)) bs (rest.0 t),
    λ w. ⊎_elim (λ here. absurd
        (false≢true (sym other
        ∙ (bytes_eq-Decides bs (string_bytes e.0)).1 (sym (Contains-one (string_bytes e.0) bs here))))) rest.1
        (Contains-append_cases (string_bytes e.0 ∷ []) (names (pairs es)) bs w),
  )

  -- a look-up finds exactly the bytes that are a name
  pub Decides-found : (es : List (String Y × T)) (bs : List ℕ)
      → Decides (is_some (found es bs)) (Contains (names (pairs es)) bs)
  Decides-found [] bs = (λ e. absurd (false≢true e), λ w. absurd (omega (arith, w.1)))
  Decides-found (e ∷ es) bs = step e es bs (bytes_eq bs (string_bytes e.0)) refl (Decides-found es bs)

  -- the look-up in the list that contracts see is that in the entries
  pub named-pairs : (es : List (String Y × T)) (bs : List ℕ) → named (pairs es) bs ≡ found es bs
  named-pairs [] bs = refl
  named-pairs (e ∷ es) bs =
      ap (λ (o : Option T). cond (bytes_eq bs (string_bytes e.0)) (Some e.1) o) (named-pairs es bs)

  pub found-none : (es : List (String Y × T)) (bs : List ℕ) → ¬ (Contains (names (pairs es)) bs) → found es bs ≡ None
  found-none es bs new = by (found es bs) refl
    where
      by : (o : Option T) → found es bs ≡ o → o ≡ None
      by None e = refl
      by (Some v) e = absurd (new ((Decides-found es bs).0 (ap is_some e)))

  pub pairs-append : (es : List (String Y × T)) (k : String Y) (v : T)
      → pairs (es ++ (k, v) ∷ []) ≡ pairs es ++ (string_bytes k, v) ∷ []
  pairs-append [] k v = refl
  pairs-append (e ∷ es) k v = ap (λ ps. (string_bytes e.0, e.1) ∷ ps) (pairs-append es k v)

  -- a new name goes last
  pub pairs-insert : {S : Type 0} (m : IndexMap (String Y) T S) (k : String Y) (v : T)
      → ¬ (Contains (names (pairs m.entries)) (string_bytes k))
      → pairs (insert_entry string_eq m.entries k v) ≡ pairs m.entries ++ (string_bytes k, v) ∷ []
  pairs-insert m k v new = ap pairs (insert_entry-new string_eq m k v (found-none m.entries (string_bytes k) new))
      ∙ pairs-append m.entries k v
