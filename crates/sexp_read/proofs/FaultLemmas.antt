-- Which texts have a fault, and that it is one fault.
use Rattle.std.proofs.Common.{◌≡◌, ℕ, ◌+◌, ◌-◌, ◌<◌, ◌≤◌, ◌⊎◌, true, false, List, [], ◌∷◌, ◌++◌, length, drop}
use Rattle.std.proofs.Common.{slice_get, Some, refl, sym, ap, subst, ◌∙◌, inl, inr, arith, append_assoc, length-append}
use Rattle.std.specs.Prelude.{IsTrue}
use Rattle.std.specs.List.{AllByRecursion, list_all}
use Rattle.std.proofs.lemmas.List.{append-nil, same_from_push}
use Rattle.std.proofs.lemmas.Bool.{cases_lt, false≢true}
use Rattle.std.proofs.lemmas.List.Sums.{AllPass-from_list_all}
use Rattle.std.proofs.lemmas.Option.{slice_get_within, get_or_from_slice_get}
use Rattle.sexp_read.specs.declared.fault.SexpFault.{SexpFault}
use Rattle.sexp_read.specs.declared.fault.SexpFault.TheVariants.{NotText, Unclosed, Stray, Deep, NoMemory}
use Rattle.sexp_read.specs.declared.forest.Item.{Item}
use Rattle.sexp_read.specs.declared.forest.Forest.{Forest}
use Rattle.sexp_read.specs.Token.{is_text_byte, Token, Open, Close, Atom, Mode, tokens, tokens_from}
use Rattle.sexp_read.specs.Tree.{Tree, Word, Branch, Trees, End, Then, tree_tokens, flatten, tree_depth, depth}
use Rattle.sexp_read.specs.Tree.{depth_limit}
use Rattle.sexp_read.specs.Forest.{IsReading, items_of, places}
use Rattle.sexp_read.specs.Fault.{open_after, open_lists, HasToken, StandsIn, place_of, IsFault}
use Rattle.sexp_read.specs.Progress.{IsFaultless}
use Rattle.sexp_read.proofs.PartialLemmas.{open_lists-flatten}
use Rattle.sexp_read.proofs.SpanLemmas.{IsFrom, tokens_from-from, Spans, tokens-span}
use Rattle.list_lemmas.proofs.Lists.{append-split as in-either}
use Rattle.list_lemmas.proofs.Lookups.{all-in-middle}

-- the rest of faultless tokens is faultless after what they leave open
pub faultless-rest : (opened : List ℕ) (before after : List Token) → IsFaultless opened (before ++ after)
    → IsFaultless (open_after opened before) after
faultless-rest opened [] after h = h
faultless-rest opened (Open place ∷ before) after h = faultless-rest (place ∷ opened) before after h.1
faultless-rest [] (Close to ∷ before) after h = absurd h
faultless-rest (_ ∷ opened) (Close to ∷ before) after h = faultless-rest opened before after h
faultless-rest opened (Atom first word ∷ before) after h = faultless-rest opened before after h

not-stray : (opened : List ℕ) (to : ℕ) (after : List Token) → IsFaultless opened (Close to ∷ after) → opened ≡ [] → ⊥
not-stray [] to after h e = h
not-stray (place ∷ opened) to after h e = cc

pub no-stray : (before : List Token) (to : ℕ) (after : List Token) → IsFaultless [] (before ++ Close to ∷ after)
    → open_lists before ≡ [] → ⊥
no-stray before to after h e = not-stray (open_lists before) to after (faultless-rest [] before (Close to ∷ after) h) e

pub not-deep : (before : List Token) (place : ℕ) (after : List Token) → IsFaultless [] (before ++ Open place ∷ after)
    → length (open_lists before) < depth_limit
not-deep before place after h = (faultless-rest [] before (Open place ∷ after) h).0

-- whole trees are faultless exactly where they are not nested too deep
mutual
  tree-faultless : (tree : Tree) (opened : List ℕ) (rest : List Token) → length opened + tree_depth tree ≤ depth_limit
      → IsFaultless opened rest →
      IsFaultless opened (tree_tokens tree ++ rest)
  tree-faultless (Word first word) opened rest le h = h
  tree-faultless (Branch from to members) opened rest le h = (
    omega arith,
    subst (IsFaultless (from ∷ opened)) (sym (append_assoc (flatten members) (Close to ∷ []) rest))
        (trees-faultless members (from ∷ opened) (Close to ∷ rest) (omega arith) h),
  )

  pub trees-faultless : (trees : Trees) (opened : List ℕ) (rest : List Token)
      → length opened + depth trees ≤ depth_limit → IsFaultless opened rest →
      IsFaultless opened (flatten trees ++ rest)
  trees-faultless End opened rest le h = h
  trees-faultless (Then tree trees) opened rest le h =
      subst (IsFaultless opened) (sym (append_assoc (tree_tokens tree) (flatten trees) rest))
      (tree-faultless tree opened (flatten trees ++ rest) (omega arith)
      (trees-faultless trees opened rest (omega arith) h))

mutual
  tree-shallow : (tree : Tree) (opened : List ℕ) (rest : List Token) → length opened ≤ depth_limit
      → IsFaultless opened (tree_tokens tree ++ rest) →
      (length opened + tree_depth tree ≤ depth_limit) × IsFaultless opened rest
  tree-shallow (Word first word) opened rest le h = (omega arith, h)
  tree-shallow (Branch from to members) opened rest le h =
      let inner = trees-shallow members (from ∷ opened) (Close to ∷ rest) (omega (arith, h.0))
      (subst (IsFaultless (from ∷ opened)) (append_assoc (flatten members) (Close to ∷ []) rest) h.1) in
      (omega (arith, inner.0), inner.1)

  pub trees-shallow : (trees : Trees) (opened : List ℕ) (rest : List Token) → length opened ≤ depth_limit
      → IsFaultless opened (flatten trees ++ rest) →
      (length opened + depth trees ≤ depth_limit) × IsFaultless opened rest
  trees-shallow End opened rest le h = (omega arith, h)
  trees-shallow (Then tree trees) opened rest le h =
      let first = tree-shallow tree opened (flatten trees ++ rest) le
      (subst (IsFaultless opened) (append_assoc (tree_tokens tree) (flatten trees) rest) h) in
      let others = trees-shallow trees opened rest le first.1 in
      (omega (arith, first.0, others.0), others.1)

-- what follows whole trees in a list's tokens: nothing, or its end
abbrev IsEnded : List Token → Type 0
IsEnded [] = Unit {0}
IsEnded (Close to ∷ ts) = Unit {0}
IsEnded _ = ⊥

ended-apart : (tree : Tree) (rest ts : List Token) → IsEnded ts → ts ≡ tree_tokens tree ++ rest → ⊥
ended-apart (Word first word) rest [] h e = cc
ended-apart (Word first word) rest (Close to ∷ ts) h e = cc
ended-apart (Word first word) rest (Open place ∷ ts) h e = h
ended-apart (Word first word) rest (Atom at bytes ∷ ts) h e = h
ended-apart (Branch from to members) rest [] h e = cc
ended-apart (Branch from to members) rest (Close at ∷ ts) h e = cc
ended-apart (Branch from to members) rest (Open place ∷ ts) h e = h
ended-apart (Branch from to members) rest (Atom at bytes ∷ ts) h e = h

-- tokens spell one list of trees
mutual
  tree-one : (a b : Tree) (xs ys : List Token) → tree_tokens a ++ xs ≡ tree_tokens b ++ ys → (a ≡ b) × (xs ≡ ys)
  tree-one (Word first word) (Word first' word') xs ys e = (cc, cc)
  tree-one (Word first word) (Branch from to members) xs ys e = absurd (cc)
  tree-one (Branch from to members) (Word first word) xs ys e = absurd (cc)
  tree-one (Branch from to members) (Branch from' to' members') xs ys e =
      let here : from ≡ from' = cc in
      let rest : (flatten members ++ Close to ∷ []) ++ xs ≡ (flatten members' ++ Close to' ∷ []) ++ ys = cc in
      let inner = trees-one members members' (Close to ∷ xs) (Close to' ∷ ys) tt tt
      (sym (append_assoc (flatten members) (Close to ∷ []) xs) ∙ rest
      ∙ append_assoc (flatten members') (Close to' ∷ []) ys) in
      let same : members ≡ members' = inner.0 in
      let ends : Close to ∷ xs ≡ Close to' ∷ ys = inner.1 in
      (cc, cc)

  trees-one : (a b : Trees) (xs ys : List Token) → IsEnded xs → IsEnded ys → flatten a ++ xs ≡ flatten b ++ ys
      → (a ≡ b) × (xs ≡ ys)
  trees-one End End xs ys p q e = (refl, e)
  trees-one End (Then tree trees) xs ys p q e =
      absurd (ended-apart tree (flatten trees ++ ys) xs p (e ∙ append_assoc (tree_tokens tree) (flatten trees) ys))
  trees-one (Then tree trees) End xs ys p q e =
      absurd (ended-apart tree (flatten trees ++ xs) ys q (sym e ∙ append_assoc (tree_tokens tree) (flatten trees) xs))
  trees-one (Then a as') (Then b bs) xs ys p q e =
      let first = tree-one a b (flatten as' ++ xs) (flatten bs ++ ys)
      (sym (append_assoc (tree_tokens a) (flatten as') xs) ∙ e ∙ append_assoc (tree_tokens b) (flatten bs) ys) in
      let others = trees-one as' bs xs ys p q first.1 in
      let same : a ≡ b = first.0 in
      let rest : as' ≡ bs = others.0 in
      (cc, others.1)

pub trees-unique : (ts : List Token) (a b : Trees) → ts ≡ flatten a → ts ≡ flatten b → a ≡ b
trees-unique ts a b x y =
    (trees-one a b [] [] tt tt (append-nil (flatten a) ∙ sym x ∙ y ∙ sym (append-nil (flatten b)))).0

pub reading-unique : (bytes : List ℕ) (a b : Forest) → IsReading bytes a → IsReading bytes b → a ≡ b
reading-unique bytes a b x y =
    let same : x.0 ≡ y.0 = trees-unique (tokens bytes) x.0 y.0 x.1.spelled y.1.spelled in
    let items : a.items ≡ b.items = x.1.items ∙ ap (items_of 0) same ∙ sym y.1.items in
    let outermost : a.outermost ≡ b.outermost = x.1.outermost ∙ ap (places 0) same ∙ sym y.1.outermost in
    let changed : a ≡ record a { items = b.items } =
    ap (λ (is : List Item). record { items = is; outermost = a.outermost }) items in
    changed ∙ ap (λ (ns : List ℕ). record { items = b.items; outermost = ns }) outermost

-- a place that comes before another is not after it
not-before : (k place : ℕ) → (k < place → ⊥) → place ≤ k
not-before k place h = elim (cases_lt k place) [ inl lt ↦ absurd (h lt) | inr le ↦ le ]

-- no fault stands before a place, if the tokens before it are faultless and the bytes before it are a text's
pub none-earlier : (bytes : List ℕ) (ts : List Token) (mode : Mode) (place : ℕ) → IsFaultless [] ts →
    tokens bytes ≡ ts ++ tokens_from mode place (drop place bytes) →
    ((k b : ℕ) → k < place → slice_get bytes k ≡ Some b → is_text_byte b ≡ true) →
    (other : SexpFault) → StandsIn bytes other → place ≤ place_of other
none-earlier bytes ts mode place faultless spelling text (NotText k) h =
    not-before k place (λ lt. false≢true (sym h.2 ∙ text k h.0 lt h.1))
none-earlier bytes ts mode place faultless spelling text (Stray k) h =
    elim (in-either ts _ h.0 (Close (k + 1)) h.1.after (sym spelling ∙ h.1.spelled)) [
      | inl found ↦ absurd (no-stray h.0 (k + 1) found.0 (subst (IsFaultless []) found.1 faultless) h.2)
      | inr found ↦
          let here : place < k + 1 = all-in-middle (IsFrom place) found.0 (Close (k + 1)) h.1.after
          (subst (AllByRecursion (IsFrom place)) found.1 (tokens_from-from mode place (drop place bytes))) in
          omega arith
    ]
none-earlier bytes ts mode place faultless spelling text (Deep k) h =
    elim (in-either ts _ h.0 (Open k) h.1.after (sym spelling ∙ h.1.spelled)) [
      | inl found ↦
          let few : length (open_lists h.0) < depth_limit =
          not-deep h.0 k found.0 (subst (IsFaultless []) found.1 faultless) in absurd (omega (arith, h.2))
      | inr found ↦ all-in-middle (IsFrom place) found.0 (Open k) h.1.after
          (subst (AllByRecursion (IsFrom place)) found.1 (tokens_from-from mode place (drop place bytes)))
    ]
none-earlier bytes ts mode place faultless spelling text (Unclosed k) h = absurd h
none-earlier bytes ts mode place faultless spelling text NoMemory h = absurd h

-- what a forest has no fault of
text-at : (bytes : List ℕ) (k b : ℕ) → IsTrue (list_all is_text_byte bytes) → slice_get bytes k ≡ Some b
    → is_text_byte b ≡ true
text-at bytes k b all e =
    let within : k < length bytes = slice_get_within bytes k b e in
    ap is_text_byte (sym (get_or_from_slice_get bytes k b b e))
    ∙ AllPass-from_list_all is_text_byte bytes all k b within

pub none-stands : (bytes : List ℕ) → IsTrue (list_all is_text_byte bytes) → IsFaultless [] (tokens bytes)
    → (fault : SexpFault) → StandsIn bytes fault → ⊥
none-stands bytes text faultless (NotText k) h = false≢true (sym h.2 ∙ text-at bytes k h.0 text h.1)
none-stands bytes text faultless (Stray k) h =
    no-stray h.0 (k + 1) h.1.after (subst (IsFaultless []) h.1.spelled faultless) h.2
none-stands bytes text faultless (Deep k) h =
    let few : length (open_lists h.0) < depth_limit =
    not-deep h.0 k h.1.after (subst (IsFaultless []) h.1.spelled faultless) in omega (arith, h.2)
none-stands bytes text faultless (Unclosed k) h = h
none-stands bytes text faultless NoMemory h = h

reading-tokens : (bytes : List ℕ) (trees : Trees) → tokens bytes ≡ flatten trees → depth trees ≤ depth_limit
    → IsFaultless [] (tokens bytes)
reading-tokens bytes trees spelled nested =
    subst (IsFaultless []) (append-nil (flatten trees) ∙ sym spelled)
    (trees-faultless trees [] [] (omega (arith, nested)) tt)

pub reading-faultless : (bytes : List ℕ) (forest : Forest) (fault : SexpFault) → IsReading bytes forest
    → IsFault bytes fault → ⊥
reading-faultless bytes forest fault reading h = faults fault h
  where
    none : (fault : SexpFault) → StandsIn bytes fault → ⊥
    none = none-stands bytes reading.1.text (reading-tokens bytes reading.0 reading.1.spelled reading.1.nested)

    faults : (fault : SexpFault) → IsFault bytes fault → ⊥
    faults (NotText k) h = none (NotText k) h.0
    faults (Stray k) h = none (Stray k) h.0
    faults (Deep k) h = none (Deep k) h.0
    faults (Unclosed k) h =
        let closed : h.1.0 ++ k ∷ [] ≡ [] = sym h.1.1 ∙ ap open_lists reading.1.spelled
        ∙ open_lists-flatten reading.0 [] in
        omega (arith, ap length closed, length-append h.1.0 (k ∷ []))
    faults NoMemory h = h

-- where a parenthesis stands
abbrev IsSpelled : List ℕ → Token → Type 0
IsSpelled bytes (Open at) = slice_get bytes at ≡ Some 40
IsSpelled bytes (Close to) = slice_get bytes (to - 1) ≡ Some 41
IsSpelled bytes (Atom first word) = Unit {0}

parenthesis-at : (bytes : List ℕ) (place : ℕ) (before : List Token) (token : Token) (after : List Token)
    → Spans bytes place (before ++ token ∷ after) → IsSpelled bytes token
parenthesis-at bytes place [] (Open at) after h = h.1
parenthesis-at bytes place [] (Close to) after h = h.1
parenthesis-at bytes place [] (Atom first word) after h = tt
parenthesis-at bytes place (Open at ∷ before) token after h = parenthesis-at bytes (at + 1) before token after h.2
parenthesis-at bytes place (Close to ∷ before) token after h = parenthesis-at bytes to before token after h.2
parenthesis-at bytes place (Atom first word ∷ before) token after h =
    parenthesis-at bytes (first + length word) before token after h.3

token-at : (bytes : List ℕ) (before : List Token) (token : Token) → HasToken bytes before token → IsSpelled bytes token
token-at bytes before token h =
    parenthesis-at bytes 0 before token h.after (subst (Spans bytes 0) h.spelled (tokens-span bytes))

-- the byte at which a fault stands
abbrev FaultByte : SexpFault → ℕ → Type 0
FaultByte (NotText k) b = is_text_byte b ≡ false
FaultByte (Stray k) b = b ≡ 41
FaultByte (Deep k) b = b ≡ 40
FaultByte _ b = ⊥

fault-byte : (bytes : List ℕ) (fault : SexpFault) → StandsIn bytes fault
    → (b : ℕ) × (slice_get bytes (place_of fault) ≡ Some b) × FaultByte fault b
fault-byte bytes (NotText k) h = h
fault-byte bytes (Stray k) h = (41, ap (slice_get bytes) (omega arith) ∙ token-at bytes h.0 (Close (k + 1)) h.1, refl)
fault-byte bytes (Deep k) h = (40, token-at bytes h.0 (Open k) h.1, refl)
fault-byte bytes (Unclosed k) h = absurd h
fault-byte bytes NoMemory h = absurd h

one-kind : (a b : SexpFault) (x : ℕ) → FaultByte a x → FaultByte b x → place_of a ≡ place_of b → a ≡ b
one-kind (NotText k) (NotText l) x p q e = ap NotText e
one-kind (NotText k) (Stray l) x p q e = absurd (false≢true (sym p ∙ ap is_text_byte q))
one-kind (NotText k) (Deep l) x p q e = absurd (false≢true (sym p ∙ ap is_text_byte q))
one-kind (Stray k) (NotText l) x p q e = absurd (false≢true (sym q ∙ ap is_text_byte p))
one-kind (Stray k) (Stray l) x p q e = ap Stray e
one-kind (Stray k) (Deep l) x p q e = absurd (omega arith)
one-kind (Deep k) (NotText l) x p q e = absurd (false≢true (sym q ∙ ap is_text_byte p))
one-kind (Deep k) (Stray l) x p q e = absurd (omega arith)
one-kind (Deep k) (Deep l) x p q e = ap Deep e
one-kind (NotText k) (Unclosed l) x p q e = absurd q
one-kind (NotText k) NoMemory x p q e = absurd q
one-kind (Stray k) (Unclosed l) x p q e = absurd q
one-kind (Stray k) NoMemory x p q e = absurd q
one-kind (Deep k) (Unclosed l) x p q e = absurd q
one-kind (Deep k) NoMemory x p q e = absurd q
one-kind (Unclosed k) b x p q e = absurd p
one-kind NoMemory b x p q e = absurd p

some-one : {x y : ℕ} → Some x ≡ Some y → x ≡ y
some-one e = cc

-- a fault that stands, or a list that is open at the end
abbrev FaultView : List ℕ → SexpFault → Type 0
FaultView bytes fault =
    (StandsIn bytes fault × ((other : SexpFault) → StandsIn bytes other → place_of fault ≤ place_of other))
    ⊎ ((k : ℕ) × (fault ≡ Unclosed k) × ((other : SexpFault) → StandsIn bytes other → ⊥)
    × ((inner : List ℕ) × (open_lists (tokens bytes) ≡ inner ++ k ∷ [])))

fault-view : (bytes : List ℕ) (fault : SexpFault) → IsFault bytes fault → FaultView bytes fault
fault-view bytes (NotText k) h = inl h
fault-view bytes (Stray k) h = inl h
fault-view bytes (Deep k) h = inl h
fault-view bytes (Unclosed k) h = inr (k, refl, h.0, h.1)
fault-view bytes NoMemory h = absurd h

pub fault-unique : (bytes : List ℕ) (a b : SexpFault) → IsFault bytes a → IsFault bytes b → a ≡ b
fault-unique bytes a b x y = both (fault-view bytes a x) (fault-view bytes b y)
  where
    both : FaultView bytes a → FaultView bytes b → a ≡ b
    both (inl p) (inl q) =
        let place : place_of a ≡ place_of b = omega (arith, p.1 b q.0, q.1 a p.0) in
        let here = fault-byte bytes a p.0 in
        let there = fault-byte bytes b q.0 in
        let same : here.0 ≡ there.0 = some-one (sym here.1 ∙ ap (slice_get bytes) place ∙ there.1) in
        one-kind a b here.0 here.2 (subst (FaultByte b) (sym same) there.2) place
    both (inl p) (inr q) = absurd (q.2 a p.0)
    both (inr p) (inl q) = absurd (p.2 b q.0)
    both (inr p) (inr q) =
        let ends = same_from_push p.3.0 q.3.0 p.0 q.0 (sym p.3.1 ∙ q.3.1) in
        p.1 ∙ ap Unclosed ends.1 ∙ sym q.1
