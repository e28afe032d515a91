-- Each step at a board's table keeps its rule.
use Rattle.std.proofs.Common.{◌≡◌, ◌≢◌, ℕ, zero, suc, ◌+◌, ◌-◌, ◌%◌, ◌^◌, ◌<◌, ◌≤◌, List, [], ◌∷◌, ◌++◌, length, set}
use Rattle.std.proofs.Common.{min}
use Rattle.std.proofs.Common.{Some, slice_get, get_or, refl, sym, ap, ◌∙◌, arith, subst, Bool, true, false, ⊎_elim}
use Rattle.std.proofs.Common.{if◌then◌else◌, length-append, append_assoc}
use Rattle.std.specs.Prelude.{Option, nat_lt, slice_index}
use Rattle.std.specs.List.{flat_map, sum_by}
use Rattle.std.proofs.lemmas.List.{map-append}
use Rattle.std.proofs.lemmas.List.Sums.{sum_by-cons, sum_by-append}
use Rattle.std.proofs.lemmas.List.Concat.{length-flat_map}
use Rattle.std.proofs.lemmas.Option.{slice_get-get_or, slice_get_within}
use Rattle.std.proofs.lemmas.Bool.{ltb-true, ltb-false}
use Rattle.std.proofs.lemmas.Bool.Decides.{nat_tests}
use mathlib.Core.Option.{some, some-ne-none, some-injective}
use mathlib.Core.Option as maybe
use mathlib.Core.List.{IsPrefix}
use lib.ListN.{get_elem?}
use Rattle.list_lemmas.proofs.Lists.{append-nothing}
use Rattle.atomic_table.specs.Table.{State, Me, keeps, opening, stepped, Joins, Splits, Allows}
use Rattle.atomic_table.proofs.Lists.{at_set, set_here, set_else, set_again, at_snoc, at_longer}
use Rattle.claim_core.specs.Laws.{times, once_below, AreOnceBelow, numbers}
use Rattle.claim_core.proofs.Totals.{sum_by-changed, times-append, times-flat_map, times-there, once_below-more}
use Rattle.claim_core.proofs.Totals.{below-counted}
use Rattle.claim_board.specs.declared.view.Ledger.{Ledger}
use Rattle.claim_board.specs.declared.view.View.{View}
use Rattle.claim_board.specs.declared.view.View.TheVariants.{Idle, Claim, Over, Joined, Book}
use Rattle.claim_board.specs.Views.{seen_by, claims_out, overs_out, workers_out}
use Rattle.claim_board.specs.Rule.{IsKept}
use Rattle.claim_board.specs.Steps.{empty_ledger, after_draw, after_enter, after_end, after_give_in, after_hand_out}
use Rattle.claim_board.specs.Steps.{handed_out, IsCompared, Compares}

-- lists

got : {A : Type 0} (xs : List A) (i : ℕ) (x : A) → get_elem? xs i ≡ some x → slice_get xs i ≡ Some x
got [] i x e = absurd (some-ne-none x (sym e))
got (y ∷ ys) zero x e = ap Some (some-injective y x e)
got (y ∷ ys) (suc i) x e = got ys i x e

prefix-whole : {A : Type 0} (xs : List A) → IsPrefix xs xs
prefix-whole xs = ([], append-nothing xs)

prefix-through : {A : Type 0} (xs ys zs : List A) → IsPrefix xs ys → IsPrefix ys zs → IsPrefix xs zs
prefix-through xs ys zs p q = (p.0 ++ q.0, sym (append_assoc xs p.0 q.0) ∙ ap (λ l. l ++ q.0) p.1 ∙ q.1)

sum_by-within : {X : Type 0} (f g : X → ℕ) → ((x : X) → f x ≤ g x) → (xs : List X) → sum_by f xs ≤ sum_by g xs
sum_by-within f g less [] = omega arith
sum_by-within f g less (x ∷ xs) =
    let a = sum_by-cons f x xs in
    let b = sum_by-cons g x xs in
    let rest = sum_by-within f g less xs in
    let this = less x in omega (arith, a, b, rest, this)

-- what seats count

moved : (f : View → ℕ) (views : List View) (id : ℕ) (v w : View) → get_elem? views id ≡ some v
    → sum_by f (set views id w) + f v ≡ sum_by f views + f w
moved f views id v w at = sum_by-changed f views id v w (got views id v at)

joined : (f : View → ℕ) (views : List View) (id other : ℕ) (v b w : View) → get_elem? views id ≡ some v
    → get_elem? (set views id b) other ≡ some w
    → sum_by f (set (set views id b) other Joined) + f v + f w ≡ sum_by f views + f b + f Joined
joined f views id other v b w at there =
    let first = moved f views id v b at in
    let second = moved f (set views id b) other w Joined there in omega (arith, first, second)

parted : (f : View → ℕ) (views : List View) (id : ℕ) (v b w : View) → get_elem? views id ≡ some v
    → sum_by f (set views id b ++ w ∷ []) + f v ≡ sum_by f views + f b + f w
parted f views id v b w at =
    let first = moved f views id v b at in
    let longer = sum_by-append f (set views id b) (w ∷ []) in omega (arith, first, longer)

dealt-parts : (x : ℕ) (book : List (ℕ × Option ℕ)) (views : List View)
    → times x (numbers book ++ flat_map claims_out views)
    ≡ times x (numbers book) + sum_by (λ v. times x (claims_out v)) views
dealt-parts x book views = times-append x (numbers book) (flat_map claims_out views)
    ∙ ap (λ k. times x (numbers book) + k) (times-flat_map claims_out x views)

drawn-parts : (views : List View) → length (flat_map claims_out views) ≡ sum_by (λ v. length (claims_out v)) views
drawn-parts views = length-flat_map claims_out views

counts-once : (x y : ℕ) → times x (y ∷ []) ≤ 1
counts-once x y = grind (arith, nat_tests)

claim-of-worker : (x : ℕ) (v : View) → times x (claims_out v) ≤ workers_out v
claim-of-worker x (Idle claims) = omega arith
claim-of-worker x (Claim number claims) = counts-once x number
claim-of-worker x (Over read claims) = omega arith
claim-of-worker x Joined = omega arith
claim-of-worker x (Book ledger) = omega arith

over-worker : (v : View) → overs_out v ≤ workers_out v
over-worker (Idle claims) = omega arith
over-worker (Claim number claims) = omega arith
over-worker (Over read claims) = omega arith
over-worker Joined = omega arith
over-worker (Book ledger) = omega arith

-- the library's seat

same-ledger : (l m : Ledger) → some (Book l) ≡ some (Book m) → l ≡ m
same-ledger l m same = cc

the-ledger : (n workers : ℕ) (s : State ℕ View) (id : ℕ) (l : Ledger) (k : IsKept n workers s)
    → get_elem? s.views id ≡ some (Book l) → k.ledger ≡ l
the-ledger n workers s id l k at =
    same-ledger k.ledger l (sym k.there ∙ ap (λ i. get_elem? s.views i) (sym (k.only id l at)) ∙ at)

-- a seat that was given in is not the library's
no-book : (l : Ledger) → Joined ≡ Book l → ⊥
no-book l same = cc

-- the start

pub kept-opening : (n workers : ℕ) → 1 ≤ workers → n + workers < 2 ^ 32
    → IsKept n workers (opening (0 ∷ []) [] (Book (empty_ledger workers)))
kept-opening n workers some_workers fits = record {
  word = 0;
  words = refl;
  keeper = 0;
  ledger = empty_ledger workers;
  there = refl;
  only = first;
  dealt = λ x. none-below (min 0 n) x (omega arith);
  drawn = omega arith;
  over = omega arith;
  seats = omega arith;
  seen = begins;
  fits = fits;
  some_workers = some_workers;
}
  where
    first : (seat : ℕ) (other : Ledger) → get_elem? (Book (empty_ledger workers) ∷ []) seat ≡ some (Book other)
        → seat ≡ 0
    first zero other at = refl
    first (suc seat) other at = absurd (some-ne-none (Book other) (sym at))

    begins : (seat : ℕ) (v : View) → get_elem? (Book (empty_ledger workers) ∷ []) seat ≡ some v
        → IsPrefix (seen_by v) []
    begins zero v at = subst (λ u. IsPrefix (seen_by u) []) (some-injective _ _ at) ([], refl)
    begins (suc seat) v at = absurd (some-ne-none v (sym at))

    none-below : (b x : ℕ) → b ≡ 0 → 0 ≡ once_below b x
    none-below b x none = grind (arith, nat_tests)

-- a join

pub kept-join : (n workers : ℕ) (s : State ℕ View) (id other : ℕ) (l m : Ledger) (w : View) → IsKept n workers s
    → get_elem? s.views id ≡ some (Book l) → ¬ (other ≡ id) → get_elem? (set s.views id (Book m)) other ≡ some w
    → ((x : ℕ) → times x (numbers m.book) ≡ times x (numbers l.book) + times x (claims_out w))
    → length m.book ≡ length l.book + length (claims_out w) → m.ended ≡ l.ended + overs_out w
    → m.ended + m.free ≡ l.ended + l.free + workers_out w → IsPrefix l.book m.book
    → (IsPrefix (seen_by w) l.book → IsPrefix m.last m.book)
    → IsKept n workers (record { words = s.words; homes = s.homes; views = set (set s.views id (Book m)) other Joined })
kept-join n workers s id other l m w k at apart there grows longer ends frees begins last =
    let is = the-ledger n workers s id l k at in record {
      word = k.word;
      words = k.words;
      keeper = id;
      ledger = m;
      there = set_else (set s.views id (Book m)) other id Joined (λ e. apart (sym e))
          ∙ set_here s.views id (Book m) (slice_get_within s.views id (Book l) (got s.views id (Book l) at));
      only = λ seat book e. ⊎_elim
          (λ (x : (seat ≡ other) × (Joined ≡ Book book)). absurd (no-book book x.1))
          (λ (x : (seat ≢ other) × (get_elem? (set s.views id (Book m)) seat ≡ some (Book book))). ⊎_elim
          (λ (y : (seat ≡ id) × (Book m ≡ Book book)). y.0)
          (λ (y : (seat ≢ id) × (get_elem? s.views seat ≡ some (Book book))). k.only seat book y.1
          ∙ sym (k.only id l at))
          (at_set s.views id seat (Book m) (Book book) x.1))
          (at_set (set s.views id (Book m)) other seat Joined (Book book) e);
      dealt = λ x.
          let old = k.dealt x in
          let before = dealt-parts x k.ledger.book s.views in
          let after = dealt-parts x m.book (set (set s.views id (Book m)) other Joined) in
          let sums = joined (λ v. times x (claims_out v)) s.views id other (Book l) (Book m) w at there in
          let same = ap (λ (ledger : Ledger). times x (numbers ledger.book)) is in
          let grown = grows x in
          omega (arith, old, before, after, sums, same, grown);
      drawn =
          let old = k.drawn in
          let before = drawn-parts s.views in
          let after = drawn-parts (set (set s.views id (Book m)) other Joined) in
          let sums = joined (λ v. length (claims_out v)) s.views id other (Book l) (Book m) w at there in
          let same = ap (λ (ledger : Ledger). length ledger.book) is in
          omega (arith, old, before, after, sums, same, longer);
      over =
          let old = k.over in
          let sums = joined overs_out s.views id other (Book l) (Book m) w at there in
          let same = ap (λ (ledger : Ledger). ledger.ended) is in
          omega (arith, old, sums, same, ends);
      seats =
          let old = k.seats in
          let sums = joined workers_out s.views id other (Book l) (Book m) w at there in
          let same = ap (λ (ledger : Ledger). ledger.ended) is in
          let free = ap (λ (ledger : Ledger). ledger.free) is in
          omega (arith, old, sums, same, free, frees);
      seen = λ seat v e. ⊎_elim
          (λ (x : (seat ≡ other) × (Joined ≡ v)). subst (λ u. IsPrefix (seen_by u) m.book) x.1 (m.book, refl))
          (λ (x : (seat ≢ other) × (get_elem? (set s.views id (Book m)) seat ≡ some v)). ⊎_elim
          (λ (y : (seat ≡ id) × (Book m ≡ v)). subst (λ u. IsPrefix (seen_by u) m.book) y.1 (last (given is)))
          (λ (y : (seat ≢ id) × (get_elem? s.views seat ≡ some v)).
          prefix-through (seen_by v) l.book m.book (subst (λ (ledger : Ledger). IsPrefix (seen_by v) ledger.book) is
          (k.seen seat v y.1)) begins)
          (at_set s.views id seat (Book m) v x.1))
          (at_set (set s.views id (Book m)) other seat Joined v e);
      fits = k.fits;
      some_workers = k.some_workers;
    }
  where
    given : k.ledger ≡ l → IsPrefix (seen_by w) l.book
    given is = ⊎_elim
        (λ (t : (other ≡ id) × (Book m ≡ w)). absurd (apart t.0))
        (λ (t : (other ≢ id) × (get_elem? s.views other ≡ some w)).
        subst (λ (ledger : Ledger). IsPrefix (seen_by w) ledger.book) is (k.seen other w t.1))
        (at_set s.views id other (Book m) w there)

-- a split

pub kept-split : (n workers : ℕ) (s : State ℕ View) (id : ℕ) (l : Ledger) → IsKept n workers s
    → get_elem? s.views id ≡ some (Book l) → 0 < l.free
    → IsKept n workers (record {
      words = s.words;
      homes = s.homes;
      views = set s.views id (Book (record { book = l.book; free = l.free - 1; ended = l.ended; last = l.last }))
          ++ Idle l.book ∷ [];
    })
kept-split n workers s id l k at free =
    let is = the-ledger n workers s id l k at in
    let m : Ledger = record { book = l.book; free = l.free - 1; ended = l.ended; last = l.last } in
    let new = Idle l.book in record {
      word = k.word;
      words = k.words;
      keeper = id;
      ledger = m;
      there = at_longer (set s.views id (Book m)) (new ∷ []) id (Book m)
          (set_here s.views id (Book m) (slice_get_within s.views id (Book l) (got s.views id (Book l) at)));
      only = λ seat book e. ⊎_elim
          (λ (x : get_elem? (set s.views id (Book m)) seat ≡ some (Book book)). ⊎_elim
          (λ (y : (seat ≡ id) × (Book m ≡ Book book)). y.0)
          (λ (y : (seat ≢ id) × (get_elem? s.views seat ≡ some (Book book))). k.only seat book y.1
          ∙ sym (k.only id l at))
          (at_set s.views id seat (Book m) (Book book) x))
          (λ (x : new ≡ Book book). cc)
          (at_snoc (set s.views id (Book m)) new (Book book) seat e);
      dealt = λ x.
          let old = k.dealt x in
          let before = dealt-parts x k.ledger.book s.views in
          let after = dealt-parts x m.book (set s.views id (Book m) ++ new ∷ []) in
          let sums = parted (λ v. times x (claims_out v)) s.views id (Book l) (Book m) new at in
          let same = ap (λ (ledger : Ledger). times x (numbers ledger.book)) is in
          omega (arith, old, before, after, sums, same);
      drawn =
          let old = k.drawn in
          let before = drawn-parts s.views in
          let after = drawn-parts (set s.views id (Book m) ++ new ∷ []) in
          let sums = parted (λ v. length (claims_out v)) s.views id (Book l) (Book m) new at in
          let same = ap (λ (ledger : Ledger). length ledger.book) is in
          omega (arith, old, before, after, sums, same);
      over =
          let old = k.over in
          let sums = parted overs_out s.views id (Book l) (Book m) new at in
          let same = ap (λ (ledger : Ledger). ledger.ended) is in
          omega (arith, old, sums, same);
      seats =
          let old = k.seats in
          let sums = parted workers_out s.views id (Book l) (Book m) new at in
          let same = ap (λ (ledger : Ledger). ledger.ended) is in
          let frees = ap (λ (ledger : Ledger). ledger.free) is in
          omega (arith, old, sums, same, frees, free);
      seen = λ seat v e. ⊎_elim
          (λ (x : get_elem? (set s.views id (Book m)) seat ≡ some v). ⊎_elim
          (λ (y : (seat ≡ id) × (Book m ≡ v)). subst (λ u. IsPrefix (seen_by u) l.book) y.1
          (subst (λ (ledger : Ledger). IsPrefix l.last ledger.book) is (k.seen id (Book l) at)))
          (λ (y : (seat ≢ id) × (get_elem? s.views seat ≡ some v)).
          subst (λ (ledger : Ledger). IsPrefix (seen_by v) ledger.book) is (k.seen seat v y.1))
          (at_set s.views id seat (Book m) v x))
          (λ (x : new ≡ v). subst (λ u. IsPrefix (seen_by u) l.book) x (prefix-whole l.book))
          (at_snoc (set s.views id (Book m)) new v seat e);
      fits = k.fits;
      some_workers = k.some_workers;
    }

-- a draw

-- the word is far from its end
pub word-below : (n workers : ℕ) (s : State ℕ View) (k : IsKept n workers s) → k.word ≤ n + workers
word-below n workers s k =
    let over = k.over in
    let seats = k.seats in
    let fewer = sum_by-within overs_out workers_out over-worker s.views in
    omega (arith, over, seats, fewer)

kept-worker : (n workers : ℕ) (s : State ℕ View) (id : ℕ) (claims : List (ℕ × Option ℕ)) (w : View)
    (k : IsKept n workers s) → get_elem? s.views id ≡ some (Idle claims)
    → ((x : ℕ) → once_below (min (k.word + 1) n) x ≡ once_below (min k.word n) x + times x (claims_out w))
    → min (k.word + 1) n ≡ min k.word n + length (claims_out w) → k.word + 1 - n ≡ k.word - n + overs_out w
    → workers_out w ≡ 1 → seen_by w ≡ claims → ((l : Ledger) → w ≡ Book l → ⊥)
    → IsKept n workers (record { words = (k.word + 1) ∷ []; homes = s.homes; views = set s.views id w })
kept-worker n workers s id claims w k at more longer ends worker sees no_library = record {
  word = k.word + 1;
  words = refl;
  keeper = k.keeper;
  ledger = k.ledger;
  there = set_else s.views id k.keeper w (λ e. apart (ap (λ i. get_elem? s.views i) e)) ∙ k.there;
  only = λ seat book e. ⊎_elim
      (λ (x : (seat ≡ id) × (w ≡ Book book)). absurd (no_library book x.1))
      (λ (x : (seat ≢ id) × (get_elem? s.views seat ≡ some (Book book))). k.only seat book x.1)
      (at_set s.views id seat w (Book book) e);
  dealt = λ x.
      let old = k.dealt x in
      let before = dealt-parts x k.ledger.book s.views in
      let after = dealt-parts x k.ledger.book (set s.views id w) in
      let sums = moved (λ v. times x (claims_out v)) s.views id (Idle claims) w at in
      let one = more x in
      omega (arith, old, before, after, sums, one);
  drawn =
      let old = k.drawn in
      let before = drawn-parts s.views in
      let after = drawn-parts (set s.views id w) in
      let sums = moved (λ v. length (claims_out v)) s.views id (Idle claims) w at in
      omega (arith, old, before, after, sums, longer);
  over =
      let old = k.over in
      let sums = moved overs_out s.views id (Idle claims) w at in
      omega (arith, old, sums, ends);
  seats =
      let old = k.seats in
      let sums = moved workers_out s.views id (Idle claims) w at in
      omega (arith, old, sums, worker);
  seen = λ seat v e. ⊎_elim
      (λ (x : (seat ≡ id) × (w ≡ v)). subst (λ u. IsPrefix (seen_by u) k.ledger.book) x.1
      (subst (λ l. IsPrefix l k.ledger.book) (sym sees) (k.seen id (Idle claims) at)))
      (λ (x : (seat ≢ id) × (get_elem? s.views seat ≡ some v)). k.seen seat v x.1)
      (at_set s.views id seat w v e);
  fits = k.fits;
  some_workers = k.some_workers;
}
  where
    apart : get_elem? s.views k.keeper ≡ get_elem? s.views id → ⊥
    apart e = let same = sym k.there ∙ e ∙ at in cc

kept-drawn : (n workers : ℕ) (s : State ℕ View) (id : ℕ) (claims : List (ℕ × Option ℕ)) (b : Bool)
    (k : IsKept n workers s) → get_elem? s.views id ≡ some (Idle claims) → nat_lt k.word n ≡ b
    → IsKept n workers (record {
      words = (k.word + 1) ∷ [];
      homes = s.homes;
      views = set s.views id (if b then Claim k.word claims else Over k.word claims);
    })
kept-drawn n workers s id claims true k at test =
    let less = ltb-true k.word n test in
    let before : min k.word n ≡ k.word = omega (arith, less) in
    let after : min (k.word + 1) n ≡ k.word + 1 = omega (arith, less) in
    kept-worker n workers s id claims (Claim k.word claims) k at
    (λ x. ap (λ b. once_below b x) after ∙ once_below-more k.word x
    ∙ ap (λ b. once_below b x + times x (k.word ∷ [])) (sym before))
    (omega (arith, before, after)) (omega (arith, less)) refl refl (λ l e. cc)
kept-drawn n workers s id claims false k at test =
    let most = ltb-false k.word n test in
    let same : min (k.word + 1) n ≡ min k.word n = omega (arith, most) in
    kept-worker n workers s id claims (Over k.word claims) k at
    (λ x. let is = ap (λ b. once_below b x) same in omega (arith, is)) (omega (arith, same)) (omega (arith, most)) refl
    refl (λ l e. cc)

-- the lists of a state may be written otherwise
kept-same : (n workers : ℕ) (words words' : List ℕ) (homes homes' : List (maybe.Option ℕ)) (views views' : List View)
    → words ≡ words' → views ≡ views' → IsKept n workers (record { words = words; homes = homes; views = views })
    → IsKept n workers (record { words = words'; homes = homes'; views = views' })
kept-same n workers words words' homes homes' views views' w v k = record {
  word = k.word;
  words = sym w ∙ k.words;
  keeper = k.keeper;
  ledger = k.ledger;
  there = subst (λ vs. get_elem? vs k.keeper ≡ some (Book k.ledger)) v k.there;
  only = subst (λ vs. (seat : ℕ) (other : Ledger) → get_elem? vs seat ≡ some (Book other) → seat ≡ k.keeper) v k.only;
  dealt = subst (λ vs. AreOnceBelow (min k.word n) (numbers k.ledger.book ++ flat_map claims_out vs)) v k.dealt;
  drawn = subst (λ vs. length k.ledger.book + length (flat_map claims_out vs) ≡ min k.word n) v k.drawn;
  over = subst (λ vs. sum_by overs_out vs + k.ledger.ended ≡ k.word - n) v k.over;
  seats = subst (λ vs. sum_by workers_out vs + k.ledger.ended + k.ledger.free ≡ workers) v k.seats;
  seen = subst (λ vs. (seat : ℕ) (u : View) → get_elem? vs seat ≡ some u → IsPrefix (seen_by u) k.ledger.book) v k.seen;
  fits = k.fits;
  some_workers = k.some_workers;
}

word-is : (n workers : ℕ) (s : State ℕ View) (k : IsKept n workers s) → slice_index s.words 0 ≡ k.word
word-is n workers s k = ap (λ ws. slice_index ws 0) k.words

pub kept-draw : (n workers : ℕ) (s : State ℕ View) (id : ℕ) (claims : List (ℕ × Option ℕ)) → IsKept n workers s
    → get_elem? s.views id ≡ some (Idle claims)
    → IsKept n workers (stepped s 0 ((slice_index s.words 0 + 1) % 2 ^ 64) id []
    (after_draw n (slice_index s.words 0) (Idle claims)) keeps)
kept-draw n workers s id claims k at =
    let is = word-is n workers s k in
    let most = word-below n workers s k in
    let fits = k.fits in
    let next : (k.word + 1) % 2 ^ 64 ≡ k.word + 1 = omega (arith, most, fits) in
    kept-same n workers ((k.word + 1) ∷ []) _ s.homes s.homes _ _
    (sym (ap (λ r. set s.words 0 ((r + 1) % 2 ^ 64)) is ∙ ap (λ ws. set ws 0 ((k.word + 1) % 2 ^ 64)) k.words
    ∙ ap (λ r. r ∷ []) next))
    (ap (λ r. set s.views id (after_draw n r (Idle claims))) (sym is))
    (kept-drawn n workers s id claims (nat_lt k.word n) k at refl)

-- a load

pub kept-load : (n workers : ℕ) (s : State ℕ View) (id : ℕ) (v : View) → IsKept n workers s
    → get_elem? s.views id ≡ some v → IsKept n workers (stepped s 0 (slice_index s.words 0) id [] v keeps)
kept-load n workers s id v k at =
    kept-same n workers s.words _ s.homes s.homes s.views _
    (k.words ∙ sym (ap (λ ws. set ws 0 (slice_index ws 0)) k.words)) (sym (set_again s.views id v at)) k

-- what the library's seat learns

pub compared : (n workers : ℕ) (s : State ℕ View) (id : ℕ) (l : Ledger) → IsKept n workers s
    → get_elem? s.views id ≡ some (Book l) → IsCompared n workers l
compared n workers s id l k at =
    let is = the-ledger n workers s id l k at in record {
      last = subst (λ (ledger : Ledger). IsPrefix l.last ledger.book) is (k.seen id (Book l) at);
      room =
          let all = k.drawn in
          let same = ap (λ (ledger : Ledger). length ledger.book) is in omega (arith, all, same);
      below = λ place d there.
          let c = get_or (numbers l.book) place d in
          let one = times-there c (numbers l.book) place (slice_get-get_or (numbers l.book) place d there) in
          let all = k.dealt c in
          let parts = dealt-parts c k.ledger.book s.views in
          let same = ap (λ (ledger : Ledger). times c (numbers ledger.book)) is in
          let below = below-counted (min k.word n) c (omega (arith, one, all, parts, same)) in
          omega (arith, below);
      all = λ ended x.
          let seats = k.seats in
          let over = k.over in
          let some_workers = k.some_workers in
          let same = ap (λ (ledger : Ledger). ledger.ended) is in
          let all = k.dealt x in
          let parts = dealt-parts x k.ledger.book s.views in
          let none = sum_by-within (λ v. times x (claims_out v)) workers_out (claim-of-worker x) s.views in
          let numbers-same = ap (λ (ledger : Ledger). times x (numbers ledger.book)) is in
          let full : min k.word n ≡ n = omega (arith, seats, over, same, ended, some_workers) in
          let once = ap (λ b. once_below b x) full in
          omega (arith, seats, same, ended, all, parts, none, numbers-same, once);
    }

-- the steps, as the table asks for them

-- a step of the library's seat with a worker's, where the views are known
at-views : (P : View → View → Type 0) (v w v' w' : View) → v ≡ v' → w ≡ w' → P v' w' → P v w
at-views P v w v' w' left right p = subst (λ u. P u w) (sym left) (subst (λ u. P v' u) (sym right) p)

pub enters : (n workers id other : ℕ) (size : Option ℕ) (v w : View) (l : Ledger) (number : ℕ)
    (claims : List (ℕ × Option ℕ)) → v ≡ Book l → w ≡ Claim number claims
    → Joins (IsKept n workers) id v other w (after_enter size v w) Joined
enters n workers id other size v w l number claims left right =
    at-views (λ x y. Joins {S = ℕ} (IsKept n workers) id x other y (after_enter size x y) Joined) v w (Book l)
    (Claim number claims) left right (λ s k at apart there.
    let m : Ledger = record {
      book = l.book ++ (number, size) ∷ [];
      free = l.free + 1;
      ended = l.ended;
      last = claims;
    } in
    kept-join n workers s id other l m (Claim number claims) k at apart there
    (λ x. ap (times x) (map-append (λ (pair : ℕ × Option ℕ). pair.0) l.book ((number, size) ∷ []))
    ∙ times-append x (numbers l.book) (number ∷ []))
    (length-append l.book ((number, size) ∷ [])) (omega arith) (omega arith) ((number, size) ∷ [], refl)
    (λ p. prefix-through claims l.book m.book p ((number, size) ∷ [], refl)))

pub ends : (n workers id other : ℕ) (v w : View) (l : Ledger) (read : ℕ) (claims : List (ℕ × Option ℕ))
    → v ≡ Book l → w ≡ Over read claims → Joins (IsKept n workers) id v other w (after_end v w) Joined
ends n workers id other v w l read claims left right =
    at-views (λ x y. Joins {S = ℕ} (IsKept n workers) id x other y (after_end x y) Joined) v w (Book l)
    (Over read claims) left right (λ s k at apart there.
    let m : Ledger = record { book = l.book; free = l.free; ended = l.ended + 1; last = claims } in
    kept-join n workers s id other l m (Over read claims) k at apart there (λ x. omega arith) (omega arith)
    (omega arith) (omega arith) (prefix-whole l.book) (λ p. p))

pub gives_in : (n workers id other : ℕ) (v w : View) (l : Ledger) (claims : List (ℕ × Option ℕ))
    → v ≡ Book l → w ≡ Idle claims → Joins (IsKept n workers) id v other w (after_give_in v w) Joined
gives_in n workers id other v w l claims left right =
    at-views (λ x y. Joins {S = ℕ} (IsKept n workers) id x other y (after_give_in x y) Joined) v w (Book l)
    (Idle claims) left right (λ s k at apart there.
    let m : Ledger = record { book = l.book; free = l.free + 1; ended = l.ended; last = claims } in
    kept-join n workers s id other l m (Idle claims) k at apart there (λ x. omega arith) (omega arith) (omega arith)
    (omega arith) (prefix-whole l.book) (λ p. p))

pub hands_out : (n workers id : ℕ) (v : View) (l : Ledger) → v ≡ Book l → 0 < l.free
    → Splits (IsKept n workers) id v (after_hand_out v) (handed_out v)
hands_out n workers id v l is free =
    subst (λ x. Splits {S = ℕ} (IsKept n workers) id x (after_hand_out x) (handed_out x)) (sym is)
    (λ s k at. kept-split n workers s id l k at free)

pub draws : (n workers slots id : ℕ) (me : Me ℕ View) (claims : List (ℕ × Option ℕ)) → me ≡ (Idle claims, [])
    → Allows (IsKept n workers) slots id me 0 (λ r. (r + 1) % 2 ^ 64)
    (λ read after. after ≡ (after_draw n read me.0, me.1))
draws n workers slots id me claims is =
    subst (λ m. Allows (IsKept n workers) slots id m 0 (λ r. (r + 1) % 2 ^ 64)
    (λ read after. after ≡ (after_draw n read m.0, m.1))) (sym is)
    (λ s k homes at word. (
      after_draw n (slice_index s.words 0) (Idle claims),
      keeps,
      tt,
      kept-draw n workers s id claims k at,
      refl,
    ))

pub compares : (n workers slots id : ℕ) (me : Me ℕ View) (l : Ledger) → me ≡ (Book l, [])
    → Allows (IsKept n workers) slots id me 0 (λ r. r) (λ read after. Compares n workers me after)
compares n workers slots id me l is =
    subst (λ m. Allows (IsKept n workers) slots id m 0 (λ r. r) (λ read after. Compares n workers m after)) (sym is)
    (λ s k homes at word. (
      Book l,
      keeps,
      tt,
      kept-load n workers s id (Book l) k at,
      (refl, λ m same. subst (λ b. IsCompared n workers b) (same-book l m same) (compared n workers s id l k at)),
    ))
  where
    same-book : (l m : Ledger) → Book l ≡ Book m → l ≡ m
    same-book l m same = cc
