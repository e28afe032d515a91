-- Lists in lexicographic order, by an order of their elements; what holds of each element of a map, and of both arms
-- of a test.
use Rattle.std.proofs.Common.{◌≡◌, Bool, true, false, cond, List, [], ◌∷◌, ◌++◌, map, refl, ap, ◌∙◌}
use Rattle.std.specs.Cmp.Lexicographic.{slice_cmp}
use Rattle.std.specs.Ordering.{ordering_then}
use Rattle.std.specs.declared.cmp.Ordering.{Ordering}
use Rattle.std.specs.declared.cmp.Ordering.TheVariants.{Less, Equal}
use Rattle.list_lemmas.proofs.Lists.{Each}

-- less in an order
abbrev pub Lower : {A : Type 0} → (A → A → Ordering) → A → A → Type 0
Lower cmp x y = cmp x y ≡ Less

pub then_less : (r s : Ordering) → r ≡ Less → ordering_then r s ≡ Less
then_less r s h = ap (λ o. ordering_then o s) h

pub then_equal : (r s o : Ordering) → r ≡ Equal → s ≡ o → ordering_then r s ≡ o
then_equal r s o h k = ap (λ q. ordering_then q s) h ∙ k

pub lists-same : {A : Type 0} (cmp : A → A → Ordering) → ((x : A) → cmp x x ≡ Equal) → (xs : List A)
    → slice_cmp cmp xs xs ≡ Equal
lists-same cmp same [] = refl
lists-same cmp same (x ∷ xs) = then_equal (cmp x x) (slice_cmp cmp xs xs) Equal (same x) (lists-same cmp same xs)

-- lists with the same front
pub Lower-behind : {A : Type 0} (cmp : A → A → Ordering) → ((x : A) → cmp x x ≡ Equal) → (front xs ys : List A)
    → Lower (slice_cmp cmp) xs ys → Lower (slice_cmp cmp) (front ++ xs) (front ++ ys)
Lower-behind cmp same [] xs ys h = h
Lower-behind cmp same (z ∷ front) xs ys h =
    then_equal (cmp z z) (slice_cmp cmp (front ++ xs) (front ++ ys)) Less (same z)
    (Lower-behind cmp same front xs ys h)

pub Each-map : {A B : Type 0} (P : A → Type 0) (F : B → A) → ((b : B) → P (F b)) → (bs : List B) → Each P (map F bs)
Each-map P F h [] = tt
Each-map P F h (b ∷ bs) = (h b, Each-map P F h bs)

-- the first arm of a test counts only where the test passes
pub cond-within : {A : Type 0} (b : Bool) (x y z : A) → (b ≡ true → x ≡ y) → cond b x z ≡ cond b y z
cond-within true x y z h = h refl
cond-within false x y z h = refl
