-- The number of a small slot tells the slot.
use Rattle.std.proofs.Common.{◌≡◌, ◌∙◌, ◌<◌, ◌≤◌, ◌+◌, ◌*◌, ◌-◌, ◌/◌, ◌%◌, ℕ, refl, sym, ap, cond, false, arith}
use Rattle.std.specs.Prelude.{nat_lt}
use Rattle.std.proofs.lemmas.Bool.Decides.{nat_tests}
use Rattle.std.proofs.lemmas.Nat.{div-mul-add, mod-mul-add}
use Rattle.pattern_core.specs.declared.pattern.Src.{Src}
use Rattle.pattern_core.specs.declared.pattern.Src.TheVariants.{Input, Out}
use Rattle.list_lemmas.proofs.Bools.{lt-true}
use Rattle.loc_encode.specs.declared.slots.Slot.{Slot}
use Rattle.loc_encode.specs.declared.slots.Slot.TheVariants as slot
use Rattle.loc_encode.specs.Slots.{slot_number, source_number}
use Rattle.loc_encode.specs.Numbers.{IsSmall, IsSmallSource, slot_at, line_slot, source_at}

lt-false : (a b : ℕ) → b ≤ a → nat_lt a b ≡ false
lt-false a b h = grind (arith, nat_tests)

quotient : (k d q r : ℕ) → k ≡ d * q + r → r < d → k / d ≡ q
quotient k d q r e l = ap (λ n. n / d) (e ∙ (let f : d * q + r ≡ q * d + r = omega arith in f)) ∙ div-mul-add q d r l

rest : (k d q r : ℕ) → k ≡ d * q + r → r < d → k % d ≡ r
rest k d q r e l = ap (λ n. n % d) (e ∙ (let f : d * q + r ≡ q * d + r = omega arith in f)) ∙ mod-mul-add q d r l

yes : {A : Type 0} (a b : ℕ) (x y z : A) → a < b → x ≡ z → cond (nat_lt a b) x y ≡ z
yes a b x y z l e = ap (λ t. cond t x y) (lt-true a b l) ∙ e

no : {A : Type 0} (a b : ℕ) (x y z : A) → b ≤ a → y ≡ z → cond (nat_lt a b) x y ≡ z
no a b x y z l e = ap (λ t. cond t x y) (lt-false a b l) ∙ e

pub source-number_small : (x : Src) → IsSmallSource x → source_number x < 22
source-number_small (Input k) h = omega arith
source-number_small (Out node result) h = omega (arith, h.0, h.1)

pub source_at-number : (x : Src) → IsSmallSource x → source_at (source_number x) ≡ x
source_at-number (Input k) h = yes k 4 (Input k) _ (Input k) h refl
source_at-number (Out node result) h =
    let k = 4 + 3 * node + result in
    let less : k - 4 ≡ 3 * node + result = omega arith in
    no k 4 _ (Out ((k - 4) / 3) ((k - 4) % 3)) (Out node result) (omega arith)
    (ap (λ n. Out n ((k - 4) % 3)) (quotient (k - 4) 3 node result less h.1)
    ∙ ap (λ r. Out node r) (rest (k - 4) 3 node result less h.1))

-- the slot of a number that is a line and less than its numbers
on_line : (k line below : ℕ) (x : Slot) → k ≡ 280 * line + below → below < 280 → line < 6 → line_slot line below ≡ x
    → slot_at k ≡ x
on_line k line below x e l few is =
    yes k 1680 (line_slot (k / 280) (k % 280)) _ x (omega (arith, e, l, few))
    (ap (λ n. line_slot n (k % 280)) (quotient k 280 line below e l)
    ∙ ap (λ r. line_slot line r) (rest k 280 line below e l) ∙ is)

pub slot_at-number : (x : Slot) → IsSmall x → slot_at (slot_number x) ≡ x
slot_at-number (slot.Kind line op) h =
    on_line (280 * line + op) line op (slot.Kind line op) refl (omega (arith, h.1)) h.0
    (yes op 64 (slot.Kind line op) _ (slot.Kind line op) h.1 refl)
slot_at-number (slot.Attr line op place) h =
    let below = 64 + 2 * op + place in
    let less : below - 64 ≡ 2 * op + place = omega arith in
    on_line (280 * line + 64 + 2 * op + place) line below (slot.Attr line op place) (omega arith)
    (omega (arith, h.1, h.2)) h.0
    (no below 64 _ _ (slot.Attr line op place) (omega arith)
    (yes below 192 (slot.Attr line ((below - 64) / 2) ((below - 64) % 2)) _ (slot.Attr line op place)
    (omega (arith, h.1, h.2))
    (ap (λ n. slot.Attr line n ((below - 64) % 2)) (quotient (below - 64) 2 op place less h.2)
    ∙ ap (λ r. slot.Attr line op r) (rest (below - 64) 2 op place less h.2))))
slot_at-number (slot.Arg line place source) h =
    let small = source-number_small source h.2 in
    let below = 192 + 22 * place + source_number source in
    let less : below - 192 ≡ 22 * place + source_number source = omega arith in
    on_line (280 * line + 192 + 22 * place + source_number source) line below (slot.Arg line place source) (omega arith)
    (omega (arith, h.1, small)) h.0
    (no below 64 _ _ (slot.Arg line place source) (omega arith)
    (no below 192 _ (slot.Arg line ((below - 192) / 22) (source_at ((below - 192) % 22))) (slot.Arg line place source)
    (omega arith)
    (ap (λ n. slot.Arg line n (source_at ((below - 192) % 22)))
    (quotient (below - 192) 22 place (source_number source) less small)
    ∙ ap (λ r. slot.Arg line place (source_at r)) (rest (below - 192) 22 place (source_number source) less small)
    ∙ ap (λ s. slot.Arg line place s) (source_at-number source h.2))))
slot_at-number (slot.Result place source) h =
    let small = source-number_small source h.1 in
    let k = 1680 + 22 * place + source_number source in
    let less : k - 1680 ≡ 22 * place + source_number source = omega arith in
    no k 1680 _ (slot.Result ((k - 1680) / 22) (source_at ((k - 1680) % 22))) (slot.Result place source) (omega arith)
    (ap (λ n. slot.Result n (source_at ((k - 1680) % 22)))
    (quotient (k - 1680) 22 place (source_number source) less small)
    ∙ ap (λ r. slot.Result place (source_at r)) (rest (k - 1680) 22 place (source_number source) less small)
    ∙ ap (λ s. slot.Result place s) (source_at-number source h.1))

pub slot-number_small : (x : Slot) → IsSmall x → slot_number x < 1746
slot-number_small (slot.Kind line op) h = omega (arith, h.0, h.1)
slot-number_small (slot.Attr line op place) h = omega (arith, h.0, h.1, h.2)
slot-number_small (slot.Arg line place source) h =
    let small = source-number_small source h.2 in omega (arith, h.0, h.1, small)
slot-number_small (slot.Result place source) h =
    let small = source-number_small source h.1 in omega (arith, h.0, small)

-- no two small slots have one number
pub same-slot : (x y : Slot) → IsSmall x → IsSmall y → slot_number x ≡ slot_number y → x ≡ y
same-slot x y a b e = sym (slot_at-number x a) ∙ ap slot_at e ∙ slot_at-number y b
