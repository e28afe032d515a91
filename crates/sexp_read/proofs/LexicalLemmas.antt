-- The computed tokens of a text are those that stand in it.
use Rattle.std.proofs.Common.{◌≡◌, ◌≢◌, ℕ, ◌+◌, ◌-◌, ◌<◌, ◌≤◌, ◌⊎◌, List, [], ◌∷◌, ◌++◌, length, drop}
use Rattle.std.proofs.Common.{slice_range, refl, sym, ap, subst, ◌∙◌, inl, inr, arith}
use Rattle.std.proofs.lemmas.Bool.{cases_lt}
use Rattle.std.proofs.lemmas.List.{length-drop}
use Rattle.sexp_read.specs.declared.token.Class.{Class}
use Rattle.sexp_read.specs.declared.token.Class.TheVariants.{Blank, Left, Right, Letter}
use Rattle.sexp_read.specs.Token.{class_of, Token, Open, Close, Atom, Mode, Between, Comment, Within}
use Rattle.sexp_read.specs.Token.{mode_after, word_in, tokens_at, tokens, tokens_from}
use Rattle.sexp_read.specs.Lexical.{IsAt, IsOutside, IsLetter, IsWord, IsToken, end_of, AreTokens}
use Rattle.sexp_read.proofs.ModeLemmas.{one-class, at-byte, at-within, IsOpen, open-last, comment-goes_on}
use Rattle.sexp_read.proofs.ModeLemmas.{comment-only_from, HasMode, closed-outside, letter-at, mode-more, word-end}
use Rattle.sexp_read.proofs.ModeLemmas.{begun-end, last-letter, word-within}
use Rattle.list_lemmas.proofs.Lookups.{drop-head}
use Rattle.list_lemmas.proofs.Members.{In, In-append_left, In-append_right, In-append_cases, In-from_Contains}
use Rattle.list_lemmas.proofs.Members.{Contains-from_In}
use Rattle.list_lemmas.proofs.Orders.{IsOrdered, IsOrdered-append, AllPairs-from_ordered, ordered-from_AllPairs}
use Rattle.list_lemmas.proofs.Orders.{same_in_order}

-- The tokens that the byte at a place completes: a parenthesis is complete with its own byte, and a word with the
-- byte after its last, or the end.
abbrev IsDone : ℕ → Token → Type 0
IsDone place (Open k) = k ≡ place
IsDone place (Close to) = to ≡ place + 1
IsDone place (Atom first word) = first + length word ≡ place

-- a word that ends at a place is the one that has begun
word-there : (bytes : List ℕ) (place : ℕ) (mode : Mode) (token : Token) → HasMode bytes place mode
    → (¬ IsLetter bytes place) → In (word_in mode) token → IsToken bytes token × IsDone place token
word-there bytes place Between token h none i = absurd i
word-there bytes place Comment token h none i = absurd i
word-there bytes place (Within first word) token h none (inr i) = absurd i
word-there bytes place (Within first word) token h none (inl e) =
    let w : IsWord bytes first place =
    record { not_empty = h.not_empty; letters = h.letters; none_before = h.none_before; none_after = none } in
    subst (λ t. IsToken bytes t × IsDone place t) e ((place, w, h.spelled), begun-end bytes first place word h)

-- a run with no letter before it begins no later than another that ends where it ends, or after
begins-no_later : (bytes : List ℕ) (first start to : ℕ) → ((k : ℕ) → first ≤ k → k < to → IsLetter bytes k)
    → ((k : ℕ) → k + 1 ≡ start → ¬ IsLetter bytes k) → start ≤ to → start ≤ first
begins-no_later bytes first start to letters none le =
    elim (cases_lt first start) [
      | inl lt ↦ absurd (none (start - 1) (omega arith) (letters (start - 1) (omega arith) (omega arith)))
      | inr no_later ↦ no_later
    ]

word-only : (bytes : List ℕ) (place : ℕ) (mode : Mode) (first : ℕ) (word : List ℕ) → HasMode bytes place mode
    → IsWord bytes first place → word ≡ slice_range bytes first place → word_in mode ≡ Atom first word ∷ []
word-only bytes place Between first word h w is =
    let last = last-letter bytes first place w.not_empty w.letters in
    absurd (h.1 last.0 last.1 last.3)
word-only bytes place Comment first word h w is =
    let last = last-letter bytes first place w.not_empty w.letters in
    absurd (last.3.1 (open-last bytes last.0 place last.1 h))
word-only bytes place (Within begun so_far) first word h w is =
    let not_empty : first < place = w.not_empty in
    let some : begun < place = h.not_empty in
    let first-first : first ≤ begun =
    begins-no_later bytes begun first place h.letters w.none_before (omega arith) in
    let begun-first : begun ≤ first =
    begins-no_later bytes first begun place w.letters h.none_before (omega arith) in
    let same : begun ≡ first = omega arith in
    let spelled : so_far ≡ word = h.spelled ∙ ap (λ k. slice_range bytes k place) same ∙ sym is in
    λ i. Atom (same i) (spelled i) ∷ []

word-done : (bytes : List ℕ) (place first : ℕ) (word : List ℕ) → IsToken bytes (Atom first word)
    → first + length word ≡ place → IsWord bytes first place × (word ≡ slice_range bytes first place)
word-done bytes place first word is done =
    let to : ℕ = is.0 in
    let ends : first + length word ≡ to = word-end bytes first to word is.1 is.2 in
    let at : to ≡ place = sym ends ∙ done in
    subst (λ k. IsWord bytes first k × (word ≡ slice_range bytes first k)) at (is.1, is.2)

-- the parenthesis of a place
abbrev paren : Class → ℕ → List Token
paren Left place = Open place ∷ []
paren Right place = Close (place + 1) ∷ []
paren _ place = []

at-comment : (class : Class) (place : ℕ) → tokens_at Comment class place ≡ []
at-comment Blank place = refl
at-comment _ place = refl

at-letter : (mode : Mode) (place : ℕ) → tokens_at mode Letter place ≡ []
at-letter Comment place = refl
at-letter _ place = refl

at-other : (mode : Mode) (class : Class) (place : ℕ) → mode ≢ Comment → class ≢ Letter
    → tokens_at mode class place ≡ word_in mode ++ paren class place
at-other Comment class place outside apart = absurd (outside refl)
at-other Between Letter place outside apart = absurd (apart refl)
at-other Between _ place outside apart = refl
at-other (Within first word) Letter place outside apart = absurd (apart refl)
at-other (Within first word) _ place outside apart = refl

comment-or_not : (mode : Mode) → (mode ≡ Comment) ⊎ (mode ≢ Comment)
comment-or_not Comment = inl refl
comment-or_not _ = inr (λ e. cc)

letter-or_not : (class : Class) → (class ≡ Letter) ⊎ (class ≢ Letter)
letter-or_not Letter = inl refl
letter-or_not _ = inr (λ e. cc)

paren-there : (bytes : List ℕ) (place : ℕ) (class : Class) (token : Token) → (¬ IsOpen bytes place)
    → IsAt bytes place class → In (paren class place) token → IsToken bytes token × IsDone place token
paren-there bytes place Left token closed at (inl e) =
    subst (λ t. IsToken bytes t × IsDone place t) e
    ((at, comment-only_from bytes place Left closed at (λ e. cc)), refl)
paren-there bytes place Right token closed at (inl e) =
    subst (λ t. IsToken bytes t × IsDone place t) e
    ((place, refl, (at, comment-only_from bytes place Right closed at (λ e. cc))), refl)
paren-there bytes place Left token closed at (inr i) = absurd i
paren-there bytes place Right token closed at (inr i) = absurd i
paren-there bytes place class token closed at i = absurd i

-- what a byte completes stands in the text and is done there
done-there : (bytes : List ℕ) (place : ℕ) (mode : Mode) (class : Class) (token : Token) → HasMode bytes place mode
    → IsAt bytes place class → In (tokens_at mode class place) token → IsToken bytes token × IsDone place token
done-there bytes place mode class token h at i =
    elim (comment-or_not mode) [
      | inl in_comment ↦ absurd (subst (λ ts. In ts token)
          (ap (λ m. tokens_at m class place) in_comment ∙ at-comment class place) i)
      | inr outside ↦ elim (letter-or_not class) [
        | inl letter ↦ absurd (subst (λ ts. In ts token)
            (ap (λ k. tokens_at mode k place) letter ∙ at-letter mode place) i)
        | inr apart ↦ elim (In-append_cases (word_in mode) (paren class place) token
            (subst (λ ts. In ts token) (at-other mode class place outside apart) i)) [
              | inl a ↦ word-there bytes place mode token h
                  (λ l. apart (one-class bytes place class Letter at l.0)) a
              | inr b ↦ paren-there bytes place class token (closed-outside bytes place mode h outside) at b
            ]
      ]
    ]

-- and it is all that stands there
none-in_comment : (bytes : List ℕ) (place : ℕ) (token : Token) → IsOpen bytes place → IsToken bytes token
    → IsDone place token → ⊥
none-in_comment bytes place (Open k) o is done =
    let here : IsOutside bytes place Left = subst (λ n. IsOutside bytes n Left) done is in
    here.1 (comment-goes_on bytes place Left o here.0 (λ e. cc))
none-in_comment bytes place (Close to) o is done =
    let at : is.0 ≡ place = omega (arith, is.1, done) in
    let here : IsOutside bytes place Right = subst (λ n. IsOutside bytes n Right) at is.2 in
    here.1 (comment-goes_on bytes place Right o here.0 (λ e. cc))
none-in_comment bytes place (Atom first word) o is done =
    let w = word-done bytes place first word is done in
    let last = last-letter bytes first place w.0.not_empty w.0.letters in
    last.3.1 (open-last bytes last.0 place last.1 o)

none-at_letter : (bytes : List ℕ) (place : ℕ) (token : Token) → (¬ IsOpen bytes place) → IsAt bytes place Letter
    → IsToken bytes token → IsDone place token → ⊥
none-at_letter bytes place (Open k) closed at is done =
    let same : Left ≡ Letter = one-class bytes place Left Letter (subst (λ n. IsAt bytes n Left) done is.0) at in
    absurd (cc)
none-at_letter bytes place (Close to) closed at is done =
    let here : is.0 ≡ place = omega (arith, is.1, done) in
    let same : Right ≡ Letter = one-class bytes place Right Letter (subst (λ n. IsAt bytes n Right) here is.2.0) at in
    absurd (cc)
none-at_letter bytes place (Atom first word) closed at is done =
    (word-done bytes place first word is done).0.none_after (letter-at bytes place closed at)

other-only : (bytes : List ℕ) (place : ℕ) (mode : Mode) (class : Class) (token : Token) → HasMode bytes place mode
    → IsAt bytes place class → IsToken bytes token → IsDone place token
    → In (word_in mode ++ paren class place) token
other-only bytes place mode class (Open k) h at is done =
    let left : Left ≡ class = one-class bytes place Left class (subst (λ n. IsAt bytes n Left) done is.0) at in
    In-append_right (word_in mode) (paren class place) (Open k)
    (subst (λ c. In (paren c place) (Open k)) left (inl (ap Open (sym done))))
other-only bytes place mode class (Close to) h at is done =
    let here : is.0 ≡ place = omega (arith, is.1, done) in
    let right : Right ≡ class = one-class bytes place Right class (subst (λ n. IsAt bytes n Right) here is.2.0) at in
    In-append_right (word_in mode) (paren class place) (Close to)
    (subst (λ c. In (paren c place) (Close to)) right (inl (ap Close (sym done))))
other-only bytes place mode class (Atom first word) h at is done =
    let w = word-done bytes place first word is done in
    In-append_left (word_in mode) (paren class place) (Atom first word)
    (subst (λ ts. In ts (Atom first word)) (sym (word-only bytes place mode first word h w.0 w.1)) (inl refl))

done-only : (bytes : List ℕ) (place : ℕ) (mode : Mode) (class : Class) (token : Token) → HasMode bytes place mode
    → IsAt bytes place class → IsToken bytes token → IsDone place token → In (tokens_at mode class place) token
done-only bytes place mode class token h at is done =
    elim (comment-or_not mode) [
      | inl in_comment ↦ absurd (none-in_comment bytes place token (subst (HasMode bytes place) in_comment h) is done)
      | inr outside ↦ elim (letter-or_not class) [
        | inl letter ↦ absurd (none-at_letter bytes place token (closed-outside bytes place mode h outside)
            (subst (IsAt bytes place) letter at) is done)
        | inr apart ↦ subst (λ ts. In ts token) (sym (at-other mode class place outside apart))
            (other-only bytes place mode class token h at is done)
      ]
    ]

-- the tokens that are done at a place or later
abbrev IsDoneFrom : ℕ → Token → Type 0
IsDoneFrom place (Open k) = place ≤ k
IsDoneFrom place (Close to) = place < to
IsDoneFrom place (Atom first word) = place ≤ first + length word

done-now : (place : ℕ) (token : Token) → IsDone place token → IsDoneFrom place token
done-now place (Open k) h = omega arith
done-now place (Close to) h = omega arith
done-now place (Atom first word) h = omega arith

done-later : (place : ℕ) (token : Token) → IsDoneFrom (place + 1) token → IsDoneFrom place token
done-later place (Open k) h = omega arith
done-later place (Close to) h = omega arith
done-later place (Atom first word) h = omega arith

now-or_later : (place : ℕ) (token : Token) → IsDoneFrom place token
    → IsDone place token ⊎ IsDoneFrom (place + 1) token
now-or_later place (Open k) h =
    elim (cases_lt place k) [ inl lt ↦ inr (omega arith) | inr le ↦ inl (omega arith) ]
now-or_later place (Close to) h =
    elim (cases_lt (place + 1) to) [ inl lt ↦ inr (omega arith) | inr le ↦ inl (omega arith) ]
now-or_later place (Atom first word) h =
    elim (cases_lt place (first + length word)) [ inl lt ↦ inr (omega arith) | inr le ↦ inl (omega arith) ]

-- nothing stands past the end
at-end : (bytes : List ℕ) (place : ℕ) → drop place bytes ≡ [] → length bytes ≤ place
at-end bytes place e = let none : length (drop place bytes) ≡ 0 = ap length e in omega (arith, length-drop place bytes)

done-at_end : (bytes : List ℕ) (place : ℕ) (mode : Mode) (token : Token) → length bytes ≤ place
    → HasMode bytes place mode → IsToken bytes token → IsDoneFrom place token → In (word_in mode) token
done-at_end bytes place mode (Open k) past h is from =
    absurd (omega (arith, at-within bytes k Left is.0))
done-at_end bytes place mode (Close to) past h is from =
    absurd (omega (arith, is.1, at-within bytes is.0 Right is.2.0))
done-at_end bytes place mode (Atom first word) past h is from =
    let within = word-within bytes first is.0 is.1 in
    let ends = word-end bytes first is.0 word is.1 is.2 in
    let w = word-done bytes place first word is (omega arith) in
    subst (λ ts. In ts (Atom first word)) (sym (word-only bytes place mode first word h w.0 w.1)) (inl refl)

-- the computed tokens are those that stand in the text
computed-there : (bytes rest : List ℕ) (mode : Mode) (place : ℕ) → drop place bytes ≡ rest
    → HasMode bytes place mode → (token : Token) → In (tokens_from mode place rest) token
    → IsToken bytes token × IsDoneFrom place token
computed-there bytes [] mode place e h token i =
    let past : length bytes ≤ place = at-end bytes place e in
    let there = word-there bytes place mode token h (λ l. absurd (omega (arith, at-within bytes place Letter l.0))) i in
    (there.0, done-now place token there.1)
computed-there bytes (b ∷ bs) mode place e h token i =
    let class : Class = class_of b in
    let here = drop-head bytes place b bs e in
    let at : IsAt bytes place class = at-byte bytes place b class here.0 refl in
    elim (In-append_cases (tokens_at mode class place)
    (tokens_from (mode_after mode class place b) (place + 1) bs) token i) [
      | inl now ↦ (let there = done-there bytes place mode class token h at now in
          (there.0, done-now place token there.1))
      | inr later ↦ (let there = computed-there bytes bs (mode_after mode class place b) (place + 1) here.1
          (mode-more bytes place b mode class here.0 at h) token later in
          (there.0, done-later place token there.1))
    ]

there-computed : (bytes rest : List ℕ) (mode : Mode) (place : ℕ) → drop place bytes ≡ rest
    → HasMode bytes place mode → (token : Token) → IsToken bytes token → IsDoneFrom place token
    → In (tokens_from mode place rest) token
there-computed bytes [] mode place e h token is from =
    done-at_end bytes place mode token (at-end bytes place e) h is from
there-computed bytes (b ∷ bs) mode place e h token is from =
    let class : Class = class_of b in
    let here = drop-head bytes place b bs e in
    let at : IsAt bytes place class = at-byte bytes place b class here.0 refl in
    let next : Mode = mode_after mode class place b in
    elim (now-or_later place token from) [
      | inl now ↦ In-append_left (tokens_at mode class place) (tokens_from next (place + 1) bs) token
          (done-only bytes place mode class token h at is now)
      | inr later ↦ In-append_right (tokens_at mode class place) (tokens_from next (place + 1) bs) token
          (there-computed bytes bs next (place + 1) here.1 (mode-more bytes place b mode class here.0 at h) token is
          later)
    ]

-- from left to right
abbrev EndsBefore : Token → Token → Type 0
EndsBefore token later = end_of token < end_of later

letter-last : (bytes : List ℕ) (place : ℕ) (class : Class) (first : ℕ) (word : List ℕ) → IsAt bytes place class
    → class ≢ Letter → IsToken bytes (Atom first word) → place + 1 ≤ first + length word
    → place + 1 < first + length word
letter-last bytes place class first word at apart is from =
    elim (cases_lt (place + 1) (first + length word)) [
      | inl lt ↦ lt
      | inr le ↦ (let w = word-done bytes (place + 1) first word is (omega arith) in
          let not_empty : first < place + 1 = w.0.not_empty in
          absurd (apart (one-class bytes place class Letter at (w.0.letters place (omega arith) (omega arith)).0)))
    ]

ends-before : (bytes : List ℕ) (place : ℕ) (token later : Token) → IsToken bytes token → IsDone place token
    → IsToken bytes later → IsDoneFrom (place + 1) later → EndsBefore token later
ends-before bytes place (Open k) (Atom first word) is done then from =
    let more = letter-last bytes place Left first word (subst (λ n. IsAt bytes n Left) done is.0) (λ e. cc) then from in
    omega arith
ends-before bytes place (Close to) (Atom first word) is done then from =
    let here : is.0 ≡ place = omega (arith, is.1, done) in
    let more = letter-last bytes place Right first word (subst (λ n. IsAt bytes n Right) here is.2.0) (λ e. cc) then
    from in
    omega arith
ends-before bytes place (Open k) (Open m) is done then from = omega arith
ends-before bytes place (Open k) (Close to) is done then from = omega arith
ends-before bytes place (Close to) (Open m) is done then from = omega arith
ends-before bytes place (Close to) (Close end) is done then from = omega arith
ends-before bytes place (Atom first word) (Open m) is done then from = omega arith
ends-before bytes place (Atom first word) (Close to) is done then from = omega arith
ends-before bytes place (Atom first word) (Atom start letters) is done then from = omega arith

word-ordered : (mode : Mode) → IsOrdered EndsBefore (word_in mode)
word-ordered (Within first word) = (λ y i. absurd i, tt)
word-ordered Between = tt
word-ordered Comment = tt

paren-ordered : (class : Class) (place : ℕ) → IsOrdered EndsBefore (paren class place)
paren-ordered Left place = (λ y i. absurd i, tt)
paren-ordered Right place = (λ y i. absurd i, tt)
paren-ordered _ place = tt

word-ends : (bytes : List ℕ) (place : ℕ) (mode : Mode) (token : Token) → HasMode bytes place mode
    → In (word_in mode) token → end_of token ≡ place
word-ends bytes place Between token h i = absurd i
word-ends bytes place Comment token h i = absurd i
word-ends bytes place (Within first word) token h (inr i) = absurd i
word-ends bytes place (Within first word) token h (inl e) =
    ap end_of (sym e) ∙ begun-end bytes first place word h

paren-ends : (class : Class) (place : ℕ) (token : Token) → In (paren class place) token → end_of token ≡ place + 1
paren-ends Left place token (inl e) = ap end_of (sym e)
paren-ends Right place token (inl e) = ap end_of (sym e)
paren-ends Left place token (inr i) = absurd i
paren-ends Right place token (inr i) = absurd i
paren-ends class place token i = absurd i

now-ordered : (bytes : List ℕ) (place : ℕ) (mode : Mode) (class : Class) → HasMode bytes place mode
    → IsOrdered EndsBefore (tokens_at mode class place)
now-ordered bytes place mode class h =
    elim (comment-or_not mode) [
      | inl in_comment ↦ subst (IsOrdered EndsBefore)
          (sym (ap (λ m. tokens_at m class place) in_comment ∙ at-comment class place)) tt
      | inr outside ↦ elim (letter-or_not class) [
        | inl letter ↦ subst (IsOrdered EndsBefore)
            (sym (ap (λ k. tokens_at mode k place) letter ∙ at-letter mode place)) tt
        | inr apart ↦ subst (IsOrdered EndsBefore) (sym (at-other mode class place outside apart))
            (IsOrdered-append EndsBefore (word_in mode) (paren class place) (word-ordered mode)
            (paren-ordered class place)
            (λ x y i j. let ends = word-ends bytes place mode x h i in
            let later = paren-ends class place y j in
            omega arith))
      ]
    ]

computed-ordered : (bytes rest : List ℕ) (mode : Mode) (place : ℕ) → drop place bytes ≡ rest
    → HasMode bytes place mode → IsOrdered EndsBefore (tokens_from mode place rest)
computed-ordered bytes [] mode place e h = word-ordered mode
computed-ordered bytes (b ∷ bs) mode place e h =
    let class : Class = class_of b in
    let here = drop-head bytes place b bs e in
    let at : IsAt bytes place class = at-byte bytes place b class here.0 refl in
    let next : Mode = mode_after mode class place b in
    let more : HasMode bytes (place + 1) next = mode-more bytes place b mode class here.0 at h in
    IsOrdered-append EndsBefore (tokens_at mode class place) (tokens_from next (place + 1) bs)
    (now-ordered bytes place mode class h) (computed-ordered bytes bs next (place + 1) here.1 more)
    (λ x y i j. let now = done-there bytes place mode class x h at i in
    let later = computed-there bytes bs next (place + 1) here.1 more y j in
    ends-before bytes place x y now.0 now.1 later.0 later.1)

-- from the first byte on
begins : (bytes : List ℕ) → HasMode bytes 0 Between
begins bytes = (λ o. absurd (omega (arith, o.1)), λ k next letter. absurd (omega arith))

done-from_first : (bytes : List ℕ) (token : Token) → IsToken bytes token → IsDoneFrom 0 token
done-from_first bytes (Open k) is = omega arith
done-from_first bytes (Close to) is = omega (arith, is.1)
done-from_first bytes (Atom first word) is = omega arith

pub tokens-are : (bytes : List ℕ) → AreTokens bytes (tokens bytes)
tokens-are bytes =
    record {
      each = λ token. (
        λ i. (computed-there bytes bytes Between 0 refl (begins bytes) token
            (In-from_Contains (tokens bytes) token i)).0,
        λ is. Contains-from_In (tokens bytes) token (there-computed bytes bytes Between 0 refl (begins bytes) token is
            (done-from_first bytes token is)),
      );
      rising = AllPairs-from_ordered EndsBefore (tokens bytes)
          (computed-ordered bytes bytes Between 0 refl (begins bytes));
    }

-- and no other list is
among-others : (bytes : List ℕ) (some others : List Token) → AreTokens bytes some → AreTokens bytes others
    → (token : Token) → In some token → In others token
among-others bytes some others h k token i =
    In-from_Contains others token ((k.each token).1 ((h.each token).0 (Contains-from_In some token i)))

pub tokens-unique : (bytes : List ℕ) (some others : List Token) → AreTokens bytes some → AreTokens bytes others
    → some ≡ others
tokens-unique bytes some others h k =
    same_in_order EndsBefore (λ x y l m. absurd (omega arith)) some others
    (ordered-from_AllPairs EndsBefore some h.rising) (ordered-from_AllPairs EndsBefore others k.rising)
    (among-others bytes some others h k) (among-others bytes others some k h)
