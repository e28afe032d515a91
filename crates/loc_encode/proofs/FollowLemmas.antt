-- In a canonical pattern each node but the last is followed at once by a node over it, or by one that a list of sources
-- names after it.
use Rattle.std.proofs.Common.{◌≡◌, ℕ, zero, suc, ◌+◌, ◌<◌, ◌≤◌, ◌⊎◌, inl, inr, ⊎_elim, Bool, true, false, cond}
use Rattle.std.proofs.Common.{List}
use Rattle.std.proofs.Common.{[], ◌∷◌, ◌++◌, length, take, slice_get, Some, refl, sym, ap, ◌∙◌, subst, arith}
use Rattle.std.proofs.Common.{append_assoc}
use Rattle.std.proofs.Common.{length-append}
use Rattle.std.specs.Prelude.{nat_eq, fold}
use Rattle.std.specs.List.{list_any}
use Rattle.std.proofs.lemmas.Bool.{cases_lt}
use Rattle.std.proofs.lemmas.List.{take_all, take-append-le}
use Rattle.list_lemmas.proofs.Lists.{append-nothing}
use Rattle.pattern_core.specs.declared.pattern.Src.{Src}
use Rattle.pattern_core.specs.declared.pattern.Src.TheVariants.{Input, Out}
use Rattle.pattern_core.specs.declared.pattern.Node.{Node}
use Rattle.pattern_core.specs.declared.pattern.Pattern.{Pattern}
use Rattle.pattern_core.specs.Pattern.{args_of}
use Rattle.pattern_core.specs.Walk.{walk, below, IsCanonical}

-- ---- the numbers below a number

length-below : (n : ℕ) → length (below n) ≡ n
length-below zero = refl
length-below (suc n) = omega (arith, length-append (below n) (n ∷ []), length-below n)

take-below : (m n : ℕ) → m ≤ n → take m (below n) ≡ below m
take-below m zero l = let none : m ≡ 0 = omega (arith, l) in (λ i. take (none i) []) ∙ ap below (sym none)
take-below m (suc n) l =
    elim (cases_lt n m) [
      | inl past ↦ (let all : m ≡ suc n = omega (arith, l, past) in
          take_all m (below (suc n)) (omega (arith, length-below (suc n), all)) ∙ ap below (sym all))
      | inr within ↦ take-append-le m (below n) (n ∷ []) (omega (arith, length-below n, within)) ∙ take-below m n within
    ]

same-below : (a b : ℕ) → below a ≡ below b → a ≡ b
same-below a b e = omega (arith, length-below a, length-below b, ap length e)

-- what the numbers below a number begin with
front-below : (xs more : List ℕ) (b : ℕ) → xs ++ more ≡ below b → (xs ≡ below (length xs)) × (length xs ≤ b)
front-below xs more b e =
    let short : length xs ≤ b = omega (arith, length-append xs more, length-below b, ap length e) in (
      sym (take_all (length xs) xs (omega arith)) ∙ sym (take-append-le (length xs) xs more (omega arith))
          ∙ ap (take (length xs)) e ∙ take-below (length xs) b short,
      short,
    )

last-below : (xs : List ℕ) (x b : ℕ) → xs ++ x ∷ [] ≡ below b → (b ≡ suc (length xs)) × (x ≡ length xs) × (xs ≡ below x)
last-below xs x b e =
    let front = front-below xs (x ∷ []) b e in
    let whole : b ≡ suc (length xs) =
    omega (arith, length-append xs (x ∷ []), length-below b, ap length e) in
    let last : below (length xs) ++ x ∷ [] ≡ below (length xs) ++ length xs ∷ [] =
    ap (λ ys. ys ++ x ∷ []) (sym front.0) ∙ e ∙ ap below whole in
    let same : x ≡ length xs = ends (below (length xs)) x (length xs) last in
    (whole, same, front.0 ∙ ap below (sym same))
  where
    ends : (ys : List ℕ) (x z : ℕ) → ys ++ x ∷ [] ≡ ys ++ z ∷ [] → x ≡ z
    ends [] x z e = cc
    ends (y ∷ ys) x z e = ends ys x z (cc)

-- ---- a walk adds at the end

all-add : (deep : ℕ) (nodes : List Node)
    → ((left : List ℕ) (s : Src) → (more : List ℕ) × (walk deep nodes left s ≡ left ++ more))
    → (left : List ℕ) (ss : List Src) → (more : List ℕ) × (fold (walk deep nodes) left ss ≡ left ++ more)
all-add deep nodes step left [] = ([], sym (append-nothing left))
all-add deep nodes step left (s ∷ ss) =
    let one = step left s in
    let rest = all-add deep nodes step (walk deep nodes left s) ss in
    (one.0 ++ rest.0, rest.1 ∙ ap (λ xs. xs ++ rest.0) one.1 ∙ append_assoc left one.0 rest.0)

enters : (b : Bool) (left inner : List ℕ) (node : ℕ) → (more : List ℕ) × (inner ≡ left ++ more)
    → (more : List ℕ) × (cond b left (inner ++ node ∷ []) ≡ left ++ more)
enters true left inner node rest = ([], sym (append-nothing left))
enters false left inner node rest =
    (rest.0 ++ node ∷ [], ap (λ xs. xs ++ node ∷ []) rest.1 ∙ append_assoc left rest.0 (node ∷ []))

adds : (deep : ℕ) (nodes : List Node) (left : List ℕ) (s : Src)
    → (more : List ℕ) × (walk deep nodes left s ≡ left ++ more)
unfolding walk
adds zero nodes left (Input k) = ([], sym (append-nothing left))
adds zero nodes left (Out node r) = ([], sym (append-nothing left))
adds (suc deep) nodes left (Input k) = ([], sym (append-nothing left))
adds (suc deep) nodes left (Out node r) =
    enters (list_any (nat_eq node) left) left (fold (walk deep nodes) left (args_of (slice_get nodes node))) node
    (all-add deep nodes (adds deep nodes) left (args_of (slice_get nodes node)))

-- ---- what follows a node

-- the list names the node
pub record Names (list : List Src) (node : ℕ) : Type 0 where
  pub place : ℕ
  pub result : ℕ
  pub here : slice_get list place ≡ Some (Out node result)

-- and after it one that stands later
pub record GoesOn (list : List Src) (node : ℕ) : Type 0 where
  pub first : ℕ
  pub second : ℕ
  pub result : ℕ
  pub later : ℕ
  pub other : ℕ
  pub order : first < second
  pub here : slice_get list first ≡ Some (Out node result)
  pub there : slice_get list second ≡ Some (Out later other)
  pub from : node + 1 ≤ later

-- the next node is over this one, or the arguments of some node go on
abbrev pub IsLinked : List Node → ℕ → Type 0
IsLinked nodes j = Names (args_of (slice_get nodes (j + 1))) j ⊎ ((k : ℕ) × GoesOn (args_of (slice_get nodes k)) j)

Names-later : (s : Src) (ss : List Src) (j : ℕ) → Names ss j → Names (s ∷ ss) j
Names-later s ss j h = record { place = suc h.place; result = h.result; here = h.here }

GoesOn-later : (s : Src) (ss : List Src) (j : ℕ) → GoesOn ss j → GoesOn (s ∷ ss) j
GoesOn-later s ss j h = record {
  first = suc h.first;
  second = suc h.second;
  result = h.result;
  later = h.later;
  other = h.other;
  order = omega (arith, h.order);
  here = h.here;
  there = h.there;
  from = h.from;
}

-- the walk from a list, where the nodes below a had been left, leaves those below b
record IsWalked (nodes : List Node) (list : List Src) (a b : ℕ) : Type 0 where
  le : a ≤ b
  links : (j : ℕ) → a ≤ j → j + 1 < b → IsLinked nodes j ⊎ GoesOn list j
  named : (m : ℕ) → b ≡ suc m → a ≤ m → Names list m
  new : a < b → (place z q : ℕ) × (slice_get list place ≡ Some (Out z q)) × (a ≤ z)

-- and the walk from a source
abbrev IsStep : List Node → ℕ → ℕ → Src → Type 0
IsStep nodes a b s =
    (a ≡ b)
    ⊎ ((node r : ℕ) × (s ≡ Out node r) × (a ≤ node) × (b ≡ suc node)
    × ((j : ℕ) → a ≤ j → j + 1 < b → IsLinked nodes j))

walked-later : (nodes : List Node) (s : Src) (ss : List Src) (a b : ℕ) → IsWalked nodes ss a b
    → IsWalked nodes (s ∷ ss) a b
walked-later nodes s ss a b h = record {
  le = h.le;
  links = λ j l m. ⊎_elim (λ link. inl link) (λ on. inr (GoesOn-later s ss j on)) (h.links j l m);
  named = λ m e l. Names-later s ss m (h.named m e l);
  new = λ l. let w = h.new l in (suc w.0, w.1, w.2, w.3, w.4);
}

walked-more : (nodes : List Node) (s : Src) (ss : List Src) (a m b node r : ℕ) → s ≡ Out node r → a ≤ node
    → m ≡ suc node → ((j : ℕ) → a ≤ j → j + 1 < m → IsLinked nodes j) → IsWalked nodes ss m b
    → IsWalked nodes (s ∷ ss) a b
walked-more nodes s ss a m b node r is before last first h = record {
  le = omega (arith, before, last, h.le);
  links = λ j l k.
      elim (cases_lt (j + 1) m) [
        | inl within ↦ inl (first j l within)
        | inr past ↦
            elim (cases_lt j m) [
              | inl here ↦ (let same : node ≡ j = omega (arith, past, here, last) in
                  let w = h.new (omega (arith, k, past, here)) in
                  inr (record {
                    first = 0;
                    second = suc w.0;
                    result = r;
                    later = w.1;
                    other = w.2;
                    order = omega arith;
                    here = ap Some is ∙ ap (λ n. Some (Out n r)) same;
                    there = w.3;
                    from = omega (arith, w.4, same, last);
                  }))
              | inr later ↦ ⊎_elim (λ link. inl link) (λ on. inr (GoesOn-later s ss j on)) (h.links j later k)
            ]
      ];
  named = λ n e l.
      elim (cases_lt n m) [
        | inl here ↦ (let same : node ≡ n = omega (arith, e, here, h.le, last) in
            record { place = 0; result = r; here = ap Some is ∙ ap (λ n. Some (Out n r)) same })
        | inr later ↦ Names-later s ss n (h.named n e later)
      ];
  new = λ l. (0, node, r, ap Some is, before);
}

walked-all : (deep : ℕ) (nodes : List Node)
    → ((a b : ℕ) (s : Src) → walk deep nodes (below a) s ≡ below b → IsStep nodes a b s)
    → (list : List Src) (a b : ℕ) → fold (walk deep nodes) (below a) list ≡ below b → IsWalked nodes list a b
walked-all deep nodes step [] a b e =
    let same = same-below a b e in
    record {
      le = omega (arith, same);
      links = λ j l m. absurd (omega (arith, same, l, m));
      named = λ m is l. absurd (omega (arith, same, is, l));
      new = λ l. absurd (omega (arith, same, l));
    }
walked-all deep nodes step (s ∷ ss) a b e =
    let more = all-add deep nodes (adds deep nodes) (walk deep nodes (below a) s) ss in
    let front = front-below (walk deep nodes (below a) s) more.0 b (sym more.1 ∙ e) in
    let m = length (walk deep nodes (below a) s) in
    let rest = walked-all deep nodes step ss m b
    (ap (λ left. fold (walk deep nodes) left ss) (sym front.0) ∙ e) in
    ⊎_elim (λ same. walked-later nodes s ss a b (subst (λ n. IsWalked nodes ss n b) (sym same) rest))
    (λ w. walked-more nodes s ss a m b w.0 w.1 w.2 w.3 w.4 w.5 rest)
    (step a m s front.0)

entered : (t : Bool) (nodes : List Node) (a b node r : ℕ) (args : List Src) (inner : List ℕ)
    → args ≡ args_of (slice_get nodes node) → cond t (below a) (inner ++ node ∷ []) ≡ below b
    → ((m : ℕ) → inner ≡ below m → IsWalked nodes args a m) → IsStep nodes a b (Out node r)
entered true nodes a b node r args inner is e walked = inl (same-below a b e)
entered false nodes a b node r args inner is e walked =
    let last = last-below inner node b e in
    let h = walked node last.2 in
    let links : (j : ℕ) → a ≤ j → j + 1 < b → IsLinked nodes j = λ j l k.
    elim (cases_lt (j + 1) node) [
      | inl within ↦ ⊎_elim (λ link. link)
          (λ on. inr (node, subst (λ list. GoesOn list j) is on)) (h.links j l within)
      | inr past ↦ (let same : node ≡ j + 1 = omega (arith, past, k, last.0, last.1) in
          inl (subst (λ n. Names (args_of (slice_get nodes n)) j) same
          (subst (λ list. Names list j) is (h.named j (omega (arith, same)) l))))
    ] in
    inr (node, r, refl, h.le, omega (arith, last.0, last.1), links)

walked-one : (deep : ℕ) (nodes : List Node) (a b : ℕ) (s : Src) → walk deep nodes (below a) s ≡ below b
    → IsStep nodes a b s
unfolding walk
walked-one zero nodes a b (Input k) e = inl (same-below a b e)
walked-one zero nodes a b (Out node r) e = inl (same-below a b e)
walked-one (suc deep) nodes a b (Input k) e = inl (same-below a b e)
walked-one (suc deep) nodes a b (Out node r) e =
    entered (list_any (nat_eq node) (below a)) nodes a b node r (args_of (slice_get nodes node))
    (fold (walk deep nodes) (below a) (args_of (slice_get nodes node))) refl e
    (walked-all deep nodes (walked-one deep nodes) (args_of (slice_get nodes node)) a)

-- in a canonical pattern
pub canonical-follows : (p : Pattern) → IsCanonical p → (j : ℕ) → j + 1 < length p.nodes
    → IsLinked p.nodes j ⊎ GoesOn p.results j
canonical-follows p canonical j l =
    let walked = walked-all (length p.nodes) p.nodes (walked-one (length p.nodes) p.nodes) p.results 0 (length p.nodes)
    canonical in
    walked.links j (omega arith) l
