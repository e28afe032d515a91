-- What each element gives, as a loop over the list finds it.
use Rattle.std.proofs.Common.{◌≡◌, ◌∙◌, List, [], ◌∷◌, ◌++◌, Option, Some, None, refl, sym, ap}
use Rattle.std.specs.Prelude.{option_map, option_and_then}
use Rattle.std.proofs.lemmas.List.{append_assoc, append-nil}
use Rattle.term_text.specs.Literal.{each}

-- what the elements give is what those so far gave, and then what those that are left give
abbrev pub EachLeft : {A B : Type 0} → (A → Option B) → List B → List A → List A → Type 0
EachLeft f done left all = each f all ≡ option_map (λ ps. done ++ ps) (each f left)

-- nothing done yet
same-option : {B : Type 0} (o : Option (List B)) → o ≡ option_map (λ ps. [] ++ ps) o
same-option None = refl
same-option (Some ps) = refl

pub each-start : {A B : Type 0} (f : A → Option B) (all : List A) → EachLeft f [] all all
each-start f all = same-option (each f all)

abbrev put : {B : Type 0} → Option (List B) → Option B → Option (List B)
put left o = option_and_then (λ y. option_and_then (λ ys. Some (y ∷ ys)) left) o

-- an element that gives nothing
pub each-none : {A B : Type 0} (f : A → Option B) (done : List B) (x : A) (left all : List A)
    → EachLeft f done (x ∷ left) all → f x ≡ None → None ≡ each f all
each-none f done x left all so is =
    sym (so ∙ ap (λ o. option_map (λ ps. done ++ ps) (put (each f left) o)) is)

-- an element that gives something
more-option : {B : Type 0} (done : List B) (y : B) (left : Option (List B))
    → option_map (λ ps. done ++ ps) (put left (Some y)) ≡ option_map (λ ps. (done ++ y ∷ []) ++ ps) left
more-option done y None = refl
more-option done y (Some ys) = ap Some (sym (append_assoc done (y ∷ []) ys))

pub each-more : {A B : Type 0} (f : A → Option B) (done : List B) (x : A) (y : B) (left all : List A)
    → EachLeft f done (x ∷ left) all → f x ≡ Some y → EachLeft f (done ++ y ∷ []) left all
each-more f done x y left all so is =
    so ∙ ap (λ o. option_map (λ ps. done ++ ps) (put (each f left) o)) is ∙ more-option done y (each f left)

-- no element left
pub each-end : {A B : Type 0} (f : A → Option B) (done : List B) (all : List A)
    → EachLeft f done [] all → Some done ≡ each f all
each-end f done all so = sym (so ∙ ap Some (append-nil done))
