-- What each element of a list gives, and whether each of them gives something.
use Rattle.std.proofs.Common.{◌≡◌, ◌∙◌, ℕ, List, [], ◌∷◌, Option, Some, None, Bool, true, false, refl, ap, take, drop}
use Rattle.std.proofs.Common.{◌++◌, ◌<◌, length, get_or, ◌&&◌, cond, ◌+◌, map, sym, subst, arith, suc}
use Rattle.std.specs.Prelude.{option_and_then, option_map}
use Rattle.std.proofs.Math.Seq.{drop-cons}
use Rattle.std.proofs.lemmas.List.{append_assoc, append-nil}
use Rattle.std.specs.List.{list_all, prefix_len}
use Rattle.std.specs.Option.{is_some}
use Rattle.list_lemmas.proofs.Lists.{drop-map}
use Rattle.list_lemmas.proofs.Bools.{and-both}
use Rattle.sexp_read.specs.Tree.{Tree, word_of}
use Rattle.pattern_core.specs.declared.pattern.Src.TheVariants.{Out}
use Rattle.pattern_text.specs.Form.{each, number_in, source_in, attr_count, node_of, out_at, number}

put : {B : Type 0} (o : Option B) (left : Option (List B))
    → is_some (option_and_then (λ y. option_and_then (λ ys. Some (y ∷ ys)) left) o) ≡ (is_some o && is_some left)
put None left = refl
put (Some y) None = refl
put (Some y) (Some ys) = refl

pub each-formed : {A B : Type 0} (f : A → Option B) (xs : List A)
    → is_some (each f xs) ≡ list_all (λ x. is_some (f x)) xs
each-formed f [] = refl
each-formed f (x ∷ xs) = put (f x) (each f xs) ∙ ap (λ b. is_some (f x) && b) (each-formed f xs)

-- those in front that pass
one-more : (n : ℕ) → suc n ≡ 1 + n
one-more n = omega arith

front-more : {A : Type 0} (test : A → Bool) (x : A) (xs : List A) (n : ℕ) (b : Bool) → test x ≡ b
    → list_all test (take n xs) ≡ true → list_all test (take (cond b (1 + n) 0) (x ∷ xs)) ≡ true
front-more {A} test x xs n true e h =
    subst (λ m. list_all test (take m (x ∷ xs)) ≡ true) (one-more n) (and-both (test x) (list_all test (take n xs)) e h)
front-more test x xs n false e h = refl

pub front-passes : {A : Type 0} (test : A → Bool) (xs : List A) → list_all test (take (prefix_len test xs) xs) ≡ true
front-passes test [] = refl
front-passes test (x ∷ xs) = front-more test x xs (prefix_len test xs) (test x) refl (front-passes test xs)

-- a node is formed where its operation is a word and what follows its numerals are sources
chain : {A B C D : Type 0} (o : Option A) (p : Option B) (q : Option C) (make : A → B → C → D) → is_some p ≡ true
    → is_some (option_and_then (λ a. option_and_then (λ b. option_and_then (λ c. Some (make a b c)) q) p) o)
    ≡ (is_some o && is_some q)
chain None p q make h = refl
chain (Some a) None q make h = absurd (cc)
chain (Some a) (Some b) None make h = refl
chain (Some a) (Some b) (Some c) make h = refl

pub node_formed : (op : Tree) (rest : List Tree) → is_some (node_of op rest)
    ≡ (is_some (word_of op) && list_all (λ t. is_some (source_in t)) (drop (attr_count rest) rest))
node_formed op rest =
    chain (word_of op) (each number_in (take (attr_count rest) rest)) (each source_in (drop (attr_count rest) rest))
    (λ word attrs args. record { op = op; attrs = attrs; args = args })
    (each-formed number_in (take (attr_count rest) rest) ∙ front-passes (λ t. is_some (number_in t)) rest)
    ∙ ap (λ b. is_some (word_of op) && b) (each-formed source_in (drop (attr_count rest) rest))

two : {A B C : Type 0} (make : A → B → C) (o : Option A) (p : Option B)
    → is_some (option_and_then (λ a. option_and_then (λ b. Some (make a b)) p) o) ≡ (is_some o && is_some p)
two make None p = refl
two make (Some a) None = refl
two make (Some a) (Some b) = refl

pub out_formed : (word : List ℕ) (stop : ℕ) → is_some (out_at word stop)
    ≡ (is_some (number (take stop word)) && is_some (number (drop (stop + 1) word)))
out_formed word stop = two (λ j r. Out j r) (number (take stop word)) (number (drop (stop + 1) word))

-- a test of two parts, of which the first is passed
pub second-test : (first second r : Bool) (a b : Bool) → first ≡ a → first ≡ true → second ≡ b → r ≡ (a && b)
    → second ≡ r
second-test first second r a b e t f h = f ∙ sym (h ∙ ap (λ x. x && b) (sym e ∙ t))

-- what follows the numerals, as items and as their trees
pub after-attrs : (tree : ℕ → Tree) (items : List ℕ) (count : ℕ) → count ≡ attr_count (map tree items)
    → list_all (λ t. is_some (source_in t)) (map tree (drop count items))
    ≡ list_all (λ t. is_some (source_in t)) (drop (attr_count (map tree items)) (map tree items))
after-attrs tree items count e =
    ap (list_all (λ t. is_some (source_in t)))
    (sym (drop-map tree items count) ∙ ap (λ n. drop n (map tree items)) e)

-- ---- a loop over the elements

-- what the elements give is what those so far gave, and then what those that are left give
abbrev pub EachLeft : {A B : Type 0} → (A → Option B) → List B → List A → List A → Type 0
EachLeft f done left all = each f all ≡ option_map (λ ps. done ++ ps) (each f left)

-- nothing done yet
same-option : {B : Type 0} (o : Option (List B)) → o ≡ option_map (λ ps. [] ++ ps) o
same-option None = refl
same-option (Some ps) = refl

pub each-start : {A B : Type 0} (f : A → Option B) (all : List A) → EachLeft f [] all all
each-start f all = same-option (each f all)

abbrev put-first : {B : Type 0} → Option (List B) → Option B → Option (List B)
put-first left o = option_and_then (λ y. option_and_then (λ ys. Some (y ∷ ys)) left) o

-- an element that gives nothing
pub each-none : {A B : Type 0} (f : A → Option B) (done : List B) (x : A) (left all : List A)
    → EachLeft f done (x ∷ left) all → f x ≡ None → None ≡ each f all
each-none f done x left all so is =
    sym (so ∙ ap (λ o. option_map (λ ps. done ++ ps) (put-first (each f left) o)) is)

-- an element that gives something
more-option : {B : Type 0} (done : List B) (y : B) (left : Option (List B))
    → option_map (λ ps. done ++ ps) (put-first left (Some y)) ≡ option_map (λ ps. (done ++ y ∷ []) ++ ps) left
more-option done y None = refl
more-option done y (Some ys) = ap Some (sym (append_assoc done (y ∷ []) ys))

pub each-more : {A B : Type 0} (f : A → Option B) (done : List B) (x : A) (y : B) (left all : List A)
    → EachLeft f done (x ∷ left) all → f x ≡ Some y → EachLeft f (done ++ y ∷ []) left all
each-more f done x y left all so is =
    so ∙ ap (λ o. option_map (λ ps. done ++ ps) (put-first (each f left) o)) is ∙ more-option done y (each f left)

-- no element left
pub each-end : {A B : Type 0} (f : A → Option B) (done : List B) (all : List A)
    → EachLeft f done [] all → Some done ≡ each f all
each-end f done all so = sym (so ∙ ap Some (append-nil done))

-- an item that gives something is pushed
pub each-pushed : {B : Type 0} (f : Tree → Option B) (tree : ℕ → Tree) (items : List ℕ) (i : ℕ) (done new : List B)
    (y : B)
    → i < length items → EachLeft f done (map tree (drop i items)) (map tree items)
    → f (tree (get_or items i 0)) ≡ Some y → new ≡ done ++ y ∷ []
    → EachLeft f new (map tree (drop (i + 1) items)) (map tree items)
each-pushed f tree items i done new y l so is e =
    let next : suc i ≡ i + 1 = omega arith in
    let left : drop i items ≡ get_or items i 0 ∷ drop (i + 1) items =
    drop-cons items i 0 l ∙ (λ j. get_or items i 0 ∷ drop (next j) items) in
    subst (λ ys. EachLeft f ys (map tree (drop (i + 1) items)) (map tree items)) (sym e)
    (each-more f done (tree (get_or items i 0)) y (map tree (drop (i + 1) items)) (map tree items)
    (subst (λ xs. EachLeft f done (map tree xs) (map tree items)) left so) is)
