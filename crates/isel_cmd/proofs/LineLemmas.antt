-- Lines: a part of one is no whole one, also after a name, and a byte that stands in one of two texts tells them apart.
use Rattle.std.proofs.Common.{◌≡◌, ℕ, zero, suc, ◌+◌, ◌%◌, ◌^◌, ◌<◌, ◌≤◌, List, [], ◌∷◌, ◌++◌, length, take}
use Rattle.std.proofs.Common.{Bool, true, false, ◌==◌, ◌||◌, refl, ap, ◌∙◌, sym, arith, length-append}
use Rattle.std.specs.Fmt.{decimal}
use Rattle.std.proofs.lemmas.Fmt.{decimal_by_steps}
use Rattle.std.proofs.lemmas.List.{append_cancel_left, take-append-le, length-take-le}
use Rattle.std.proofs.lemmas.Bool.{or_left, or_right, or_parts, false≢true, ne_eqb}
use Rattle.std.proofs.Math.Seq.{take-append-add}
use Rattle.pattern_text.specs.Text.{line}

-- whether a byte stands in a text
abbrev pub has : ℕ → List ℕ → Bool
has b [] = false
has b (x ∷ xs) = (x == b) || has b xs

pub has-right : (b : ℕ) (front text : List ℕ) → has b text ≡ true → has b (front ++ text) ≡ true
has-right b [] text e = e
has-right b (x ∷ front) text e = or_right (x == b) (has b (front ++ text)) (has-right b front text e)

has-left-by : (b x : ℕ) (text rest : List ℕ) (test : Bool) → (x == b) ≡ test
    → (has b text ≡ true → has b (text ++ rest) ≡ true) → ((x == b) || has b text) ≡ true
    → ((x == b) || has b (text ++ rest)) ≡ true
has-left-by b x text rest true t further e = or_left (x == b) (has b (text ++ rest)) t
has-left-by b x text rest false t further e =
    or_right (x == b) (has b (text ++ rest)) (further (sym (ap (λ (c : Bool). c || has b text) t) ∙ e))

pub has-left : (b : ℕ) (text rest : List ℕ) → has b text ≡ true → has b (text ++ rest) ≡ true
has-left b [] rest e = absurd (false≢true e)
has-left b (x ∷ text) rest e = has-left-by b x text rest (x == b) refl (has-left b text rest) e

pub has-neither : (b : ℕ) (text rest : List ℕ) → has b text ≡ false → has b rest ≡ false → has b (text ++ rest) ≡ false
has-neither b [] rest e f = f
has-neither b (x ∷ text) rest e f =
    let both = or_parts (x == b) (has b text) e in
    ap (λ (c : Bool). c || has b (text ++ rest)) both.0 ∙ has-neither b text rest both.1 f

has-part : (b : ℕ) (text : List ℕ) (n : ℕ) → has b text ≡ false → has b (take n text) ≡ false
has-part b text zero e = refl
has-part b [] (suc n) e = refl
has-part b (x ∷ text) (suc n) e =
    let both = or_parts (x == b) (has b text) e in
    ap (λ (c : Bool). c || has b (take n text)) both.0 ∙ has-part b text n both.1

-- the digits of a number are no line feeds
digit_is_no_feed : (d : ℕ) → has 10 ((48 + d) ∷ []) ≡ false
digit_is_no_feed d = ap (λ (c : Bool). c || false) (ne_eqb (48 + d) 10 (λ e. omega (arith, e)))

pub decimal_has_no_feed : (n : ℕ) → n < 2 ^ 64 → has 10 (decimal n) ≡ false
decimal_has_no_feed n small =
    decimal_by_steps (λ (m : ℕ) (ds : List ℕ). has 10 ds ≡ false) (λ m low. digit_is_no_feed m)
    (λ m ds high e. has-neither 10 ds ((48 + m % 10) ∷ []) e (digit_is_no_feed (m % 10))) n small

-- a part of a line without another line feed does not end in one
part_has_no_feed : (text : List ℕ) (n : ℕ) → has 10 text ≡ false → n < length (line text)
    → has 10 (take n (line text)) ≡ false
part_has_no_feed text n none less =
    let within : n ≤ length text = omega (arith, less, length-append text (10 ∷ [])) in
    ap (has 10) (take-append-le n text (10 ∷ []) within) ∙ has-part 10 text n none

line_has_feed : (text : List ℕ) → has 10 (line text) ≡ true
line_has_feed text = has-right 10 text (10 ∷ []) refl

-- a part of such a line is no whole line after a name
pub part_is_no_line : (text name other : List ℕ) (n : ℕ) → has 10 text ≡ false → n < length (line text)
    → take n (line text) ≡ name ++ line other → ⊥
part_is_no_line text name other n none less e =
    false≢true (sym (part_has_no_feed text n none less) ∙ ap (has 10) e
    ∙ has-right 10 name (line other) (line_has_feed other))

-- nor, after the same name
pub part_is_no_named_line : (name text other : List ℕ) (n : ℕ) → has 10 text ≡ false → n < length (name ++ line text)
    → take n (name ++ line text) ≡ name ++ line other → ⊥
part_is_no_named_line name text other n none less e =
    let whole : length (take n (name ++ line text)) ≡ n =
    length-take-le n (name ++ line text) (omega (arith, less)) in
    let size : n ≡ length name + length (line other) =
    omega (arith, whole, ap length e, length-append name (line other)) in
    let same : name ++ take (length (line other)) (line text) ≡ name ++ line other =
    sym (take-append-add name (line text) (length (line other))) ∙ ap (λ (k : ℕ). take k (name ++ line text)) (sym size)
    ∙ e in
    let short : length (line other) < length (line text) =
    omega (arith, less, size, length-append name (line text)) in
    part_is_no_line text [] other (length (line other)) none short (append_cancel_left name _ _ same)

-- a line after a name is not empty
pub line_is_some : (name text : List ℕ) → 0 < length (name ++ line text)
line_is_some name text = omega (arith, length-append name (line text), length-append text (10 ∷ []))
