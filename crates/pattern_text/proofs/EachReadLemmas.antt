-- What elements are read as, one after another, up to the first fault.
use Rattle.std.proofs.Common.{◌≡◌, ◌∙◌, ℕ, ◌+◌, ◌<◌, List, [], ◌∷◌, ◌++◌, length, map, drop, get_or, Result, Ok, Err}
use Rattle.std.proofs.Common.{refl, sym, ap, subst, append_assoc, append-nil, ◌⊎◌, inl, inr}
use Rattle.sexp_read.specs.Tree.{Tree}
use Rattle.isel_spec.specs.File.{File}
use Rattle.pattern_text.specs.declared.fault.LibFault.{LibFault}
use Rattle.pattern_text.specs.declared.fault.LibKind.TheVariants as fault
use Rattle.pattern_text.specs.Steps.{and_then}
use Rattle.pattern_text.specs.Rules.{op_read, ops_read, open_read, opens_read}
use Rattle.pattern_text.proofs.RuleLemmas.{left-at}

abbrev pub each_read : {A B : Type 0} → (A → Result B LibFault) → List A → Result (List B) LibFault
each_read read [] = Ok []
each_read read (x ∷ xs) = and_then (read x) (λ y. and_then (each_read read xs) (λ ys. Ok (y ∷ ys)))

pub ops-each : (f : File) (ts : List Tree) → ops_read f ts ≡ each_read (op_read f) ts
ops-each f [] = refl
ops-each f (t ∷ ts) =
    ap (λ (r : Result (List ℕ) LibFault). and_then (op_read f t) (λ op. and_then r (λ ops. Ok (op ∷ ops))))
    (ops-each f ts)

pub opens-each : (f : File) (ts : List Tree) → opens_read f ts ≡ each_read (open_read f) ts
opens-each f [] = refl
opens-each f (t ∷ ts) =
    ap (λ (r : Result (List (List ℕ)) LibFault).
    and_then (open_read f t) (λ multi. and_then r (λ multis. Ok (multi ∷ multis)))) (opens-each f ts)

-- all of them are read as those so far, and then as those that are left
abbrev pub ReadLeft : {A B : Type 0} → (A → Result B LibFault) → List B → List A → List A → Type 0
ReadLeft read done left all = each_read read all ≡ and_then (each_read read left) (λ ys. Ok (done ++ ys))

same-result : {B : Type 0} (r : Result (List B) LibFault) → r ≡ and_then r (λ ys. Ok ([] ++ ys))
same-result (Ok ys) = refl
same-result (Err f) = refl

pub read-start : {A B : Type 0} (read : A → Result B LibFault) (all : List A) → ReadLeft read [] all all
read-start read all = same-result (each_read read all)

abbrev put-first : {B : Type 0} → Result (List B) LibFault → Result B LibFault → Result (List B) LibFault
put-first left r = and_then r (λ y. and_then left (λ ys. Ok (y ∷ ys)))

-- an element with a fault
pub read-stopped : {A B : Type 0} (read : A → Result B LibFault) (done : List B) (x : A) (left all : List A)
    (f : LibFault) → ReadLeft read done (x ∷ left) all → Err f ≡ read x → Err f ≡ each_read read all
read-stopped read done x left all f so is =
    sym (so ∙ ap (λ r. and_then (put-first (each_read read left) r) (λ ys. Ok (done ++ ys))) (sym is))

more-result : {B : Type 0} (done : List B) (y : B) (left : Result (List B) LibFault)
    → and_then (put-first left (Ok y)) (λ ys. Ok (done ++ ys)) ≡ and_then left (λ ys. Ok ((done ++ y ∷ []) ++ ys))
more-result done y (Err f) = refl
more-result done y (Ok ys) = ap Ok (sym (append_assoc done (y ∷ []) ys))

-- an element that is read
pub read-more : {A B : Type 0} (read : A → Result B LibFault) (done : List B) (x : A) (y : B) (left all : List A)
    → ReadLeft read done (x ∷ left) all → Ok y ≡ read x → ReadLeft read (done ++ y ∷ []) left all
read-more read done x y left all so is =
    so ∙ ap (λ r. and_then (put-first (each_read read left) r) (λ ys. Ok (done ++ ys))) (sym is)
    ∙ more-result done y (each_read read left)

-- no element left
pub read-end : {A B : Type 0} (read : A → Result B LibFault) (done : List B) (all : List A)
    → ReadLeft read done [] all → Ok done ≡ each_read read all
read-end read done all so = sym (so ∙ ap Ok (append-nil done))

-- the same of items
pub item-stopped : {B : Type 0} (read : Tree → Result B LibFault) (tree : ℕ → Tree) (items : List ℕ) (i : ℕ)
    (done : List B) (f : LibFault) → i < length items
    → ReadLeft read done (map tree (drop i items)) (map tree items) → Err f ≡ read (tree (get_or items i 0))
    → Err f ≡ each_read read (map tree items)
item-stopped read tree items i done f l so is =
    read-stopped read done (tree (get_or items i 0)) (map tree (drop (i + 1) items)) (map tree items) f
    (subst (λ ts. ReadLeft read done ts (map tree items)) (left-at tree items i l) so) is

pub item-read : {B : Type 0} (read : Tree → Result B LibFault) (tree : ℕ → Tree) (items : List ℕ) (i : ℕ)
    (done new : List B) (y : B) → i < length items
    → ReadLeft read done (map tree (drop i items)) (map tree items) → Ok y ≡ read (tree (get_or items i 0))
    → new ≡ done ++ y ∷ [] → ReadLeft read new (map tree (drop (i + 1) items)) (map tree items)
item-read read tree items i done new y l so is e =
    subst (λ ys. ReadLeft read ys (map tree (drop (i + 1) items)) (map tree items)) (sym e)
    (read-more read done (tree (get_or items i 0)) y (map tree (drop (i + 1) items)) (map tree items)
    (subst (λ ts. ReadLeft read done ts (map tree items)) (left-at tree items i l) so) is)

-- the same where memory may have run out
pub item-stopped-or : {B : Type 0} (read : Tree → Result B LibFault) (tree : ℕ → Tree) (items : List ℕ) (i : ℕ)
    (done : List B) (f : LibFault) → i < length items
    → ReadLeft read done (map tree (drop i items)) (map tree items)
    → (f.kind ≡ fault.NoMemory) ⊎ (Err f ≡ read (tree (get_or items i 0)))
    → (f.kind ≡ fault.NoMemory) ⊎ (Err f ≡ each_read read (map tree items))
item-stopped-or read tree items i done f l so (inl n) = inl n
item-stopped-or read tree items i done f l so (inr is) = inr (item-stopped read tree items i done f l so is)
