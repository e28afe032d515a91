-- The first place of a name.
use Rattle.std.proofs.Common.{◌≡◌, ◌∙◌, ℕ, ◌+◌, ◌<◌, List, [], ◌∷◌, Some, Bool, false, refl, ap, sym}
use Rattle.std.proofs.Common.{map, drop, get_or, length, cond, arith, suc, unwrap_or, position}
use Rattle.std.specs.Prelude.{slice_get}
use Rattle.std.specs.List.{position_from}
use Rattle.std.specs.Option.{option_map_or}
use Rattle.std.specs.Str.{bytes_eq}
use Rattle.std.proofs.Math.Seq.{drop-cons}
use Rattle.std.proofs.lemmas.Option.{slice_get_within, unwrap_or-slice_get}
use Rattle.std.proofs.lemmas.Iterator.Adapters.{position_from-zero}
use Rattle.list_lemmas.proofs.Lookups.{some_at}

pub drop-at : {A : Type 0} (xs : List A) (i : ℕ) (x : A) → slice_get xs i ≡ Some x → drop i xs ≡ x ∷ drop (i + 1) xs
drop-at xs i x h =
    let at : get_or xs i x ≡ x = sym (unwrap_or-slice_get xs i x) ∙ ap (λ o. unwrap_or o x) h in
    let next : suc i ≡ i + 1 = omega arith in
    drop-cons xs i x (slice_get_within xs i x h) ∙ (λ j. at j ∷ drop (next j) xs)

-- a test at a place, and what follows
pub tested : {T : Type 0} (word : List ℕ) (es : List (List ℕ × T)) (i : ℕ) (b : Bool) → i < length es
    → option_map_or (λ (e : List ℕ × T). bytes_eq word e.0) (slice_get es i) false ≡ b
    → position_from (bytes_eq word) i (map (λ e. e.0) (drop i es))
    ≡ cond b (Some i) (position_from (bytes_eq word) (i + 1) (map (λ e. e.0) (drop (i + 1) es)))
tested {T} word es i b l t =
    let found : (e : List ℕ × T) × (slice_get es i ≡ Some e) = some_at es i l in
    let is : bytes_eq word found.0.0 ≡ b =
    sym (ap (λ o. option_map_or (λ (e : List ℕ × T). bytes_eq word e.0) o false) found.1) ∙ t in
    ap (λ xs. position_from (bytes_eq word) i (map (λ (e : List ℕ × T). e.0) xs)) (drop-at es i found.0 found.1)
    ∙ ap (λ c. cond c (Some i) (position_from (bytes_eq word) (i + 1)
    (map (λ (e : List ℕ × T). e.0) (drop (i + 1) es)))) is

names-of : {A B : Type 0} (f : A → B) (name_of : B → List ℕ) (first : A → List ℕ) (xs : List A)
    → ((x : A) → name_of (f x) ≡ first x) → map name_of (map f xs) ≡ map first xs
names-of f name_of first [] h = refl
names-of f name_of first (x ∷ xs) h = λ i. h x i ∷ names-of f name_of first xs h i

-- the place of a name in a table is that among the names of what stands in it
pub place-named : {T B : Type 0} (word : List ℕ) (f : List ℕ × T → B) (name_of : B → List ℕ) (es : List (List ℕ × T))
    → ((x : List ℕ × T) → name_of (f x) ≡ x.0)
    → position_from (bytes_eq word) 0 (map (λ e. e.0) es) ≡ position (bytes_eq word) (map name_of (map f es))
place-named {T} word f name_of es h =
    sym (position_from-zero (bytes_eq word) (map (λ (e : List ℕ × T). e.0) es))
    ∙ ap (position (bytes_eq word)) (sym (names-of f name_of (λ (e : List ℕ × T). e.0) es h))
