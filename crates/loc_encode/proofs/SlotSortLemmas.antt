-- The sort of a slot is found exactly where the slot is one of the claim, and each slot that is mentioned by its number
-- is mentioned.
use Rattle.std.proofs.Common.{◌≡◌, ℕ, ◌+◌, ◌<◌, Bool, true, false, ◌&&◌, Option, Some, None, option_map, length}
use Rattle.std.proofs.Common.{option_and_then, slice_get, refl, sym, ap, ◌∙◌, subst, arith, Contains}
use Rattle.std.specs.Prelude.{nat_eq, nat_lt}
use Rattle.std.specs.List.{list_any}
use Rattle.std.proofs.lemmas.Bool.{and_parts}
use Rattle.std.proofs.lemmas.Bool.Decides.{nat_tests}
use Rattle.std.proofs.lemmas.Option.{same_Some}
use Rattle.bv_terms.specs.declared.op.TermId.{TermId}
use Rattle.bv_terms.specs.declared.value.Sort.{Sort}
use Rattle.bv_terms.specs.declared.value.Sort.TheVariants as sort
use Rattle.bv_terms.specs.Table.{Table}
use Rattle.isel_spec.specs.File.{Operation}
use Rattle.pattern_core.specs.Claim.{Claim}
use Rattle.list_lemmas.proofs.Bools.{and-both, lt-true}
use Rattle.list_lemmas.proofs.Options.{bind_some}
use Rattle.loc_encode.specs.declared.slots.Slot.{Slot}
use Rattle.loc_encode.specs.declared.slots.Slot.TheVariants as slot
use Rattle.loc_encode.specs.Slots.{slot_number, IsSlot}
use Rattle.loc_encode.specs.Numbers.{IsSmall, slot_at}
use Rattle.loc_encode.specs.Layout.{kinds, size, attr_width, may_name}
use Rattle.loc_encode.specs.Mentions.{may_stand, truth_if, bits_if, slot_sort, Mentions, MentionsNumber, Keeps}
use Rattle.loc_encode.specs.Mentions.{MentionsBelow}
use Rattle.loc_encode.proofs.TallyLemmas.{any-in, equal_test}
use Rattle.loc_encode.proofs.LayoutLemmas.{found-any, there-kind, kind-there, at-line, at-end, named-slot, arg-named}
use Rattle.loc_encode.proofs.LayoutLemmas.{result-named}
use Rattle.loc_encode.proofs.NumberLemmas.{slot_at-number, slot-number_small}
use Rattle.loc_encode.proofs.MentionLemmas.{Keeps-itself, Keeps-further, Mentions-kept, below-said}

lt-is : (x y : ℕ) → nat_lt x y ≡ true → x < y
lt-is x y h = grind (arith, nat_tests)

may_stand-from : (c : Claim) (line op : ℕ) → line < size c → Contains c.ops op → may_stand c line op ≡ true
may_stand-from c line op l i =
    and-both (nat_lt line (size c)) (list_any (nat_eq op) (kinds c)) (lt-true line (size c) l)
    (found-any (nat_eq op) (kinds c) op (there-kind c op i) (equal_test op))

may_stand-at : (c : Claim) (line op : ℕ) → may_stand c line op ≡ true → (line < size c) × Contains c.ops op
may_stand-at c line op e =
    let parts = and_parts (nat_lt line (size c)) (list_any (nat_eq op) (kinds c)) e in
    (lt-is line (size c) parts.0, kind-there c op (any-in op (kinds c) parts.1))

truth-found : (b : Bool) (s : Sort) → truth_if b ≡ Some s → (b ≡ true) × (s ≡ sort.Bool)
truth-found true s e = (refl, sym (same_Some sort.Bool s e))
truth-found false s e = absurd (cc)

bits-found : (b : Bool) (o : Option ℕ) (s : Sort) → bits_if b o ≡ Some s
    → (b ≡ true) × ((w : ℕ) × (o ≡ Some w) × (s ≡ sort.Bits w))
bits-found false o s e = absurd (cc)
bits-found true None s e = absurd (cc)
bits-found true (Some w) s e = (refl, (w, refl, sym (same_Some (sort.Bits w) s e)))

pub slot_sort-from : (c : Claim) (x : Slot) (s : Sort) → IsSlot c x s → slot_sort c x ≡ Some s
slot_sort-from c (slot.Kind line op) s h = ap truth_if (may_stand-from c line op h.0 h.1) ∙ ap Some (sym h.2)
slot_sort-from c (slot.Attr line op place) s h =
    let w : ℕ = h.1.1 in
    let is = h.1.2 in
    let width : attr_width c op place ≡ Some h.1.1 =
    ap (option_and_then (λ (o : Operation). slice_get o.attrs place)) is.1 ∙ h.1.3 in
    ap (λ b. bits_if b (attr_width c op place)) (may_stand-from c line op h.0 is.0)
    ∙ ap (option_map (λ (w : ℕ). sort.Bits w)) width ∙ ap Some (sym h.1.4)
slot_sort-from c (slot.Arg line place source) s h =
    let named = arg-named c line place source s h in
    ap truth_if (and-both (nat_lt line (size c)) (may_name c line place source) (lt-true line (size c) named.0) named.1)
    ∙ ap Some (sym h.2)
slot_sort-from c (slot.Result place source) s h =
    ap truth_if (result-named c place source s h) ∙ ap Some (sym h.1)

pub slot_sort-slot : (c : Claim) (x : Slot) (s : Sort) → slot_sort c x ≡ Some s → IsSlot c x s
slot_sort-slot c (slot.Kind line op) s e =
    let t = truth-found (may_stand c line op) s e in
    let m = may_stand-at c line op t.0 in
    (m.0, m.1, t.1)
slot_sort-slot c (slot.Attr line op place) s e =
    let t = bits-found (may_stand c line op) (attr_width c op place) s e in
    let m = may_stand-at c line op t.0 in
    let o = bind_some (slice_get c.file.ops op) (λ (o : Operation). slice_get o.attrs place) t.1.0 t.1.1 in
    (m.0, (o.0, t.1.0, (m.1, o.1), o.2, t.1.2))
slot_sort-slot c (slot.Arg line place source) s e =
    let t = truth-found (nat_lt line (size c) && may_name c line place source) s e in
    let parts = and_parts (nat_lt line (size c)) (may_name c line place source) t.0 in
    let l = lt-is line (size c) parts.0 in
    subst (λ r. IsSlot c (slot.Arg line place source) r) (sym t.1)
    (subst (λ x. IsSlot c x sort.Bool) (at-line c line (slot.Arg line place source) (slot.Result place source) l)
    (named-slot c line place source (omega (arith, l)) parts.1))
slot_sort-slot c (slot.Result place source) s e =
    let t = truth-found (may_name c (size c) place source) s e in
    subst (λ r. IsSlot c (slot.Result place source) r) (sym t.1)
    (subst (λ x. IsSlot c x sort.Bool)
    (at-end c (size c) (slot.Arg (size c) place source) (slot.Result place source) (omega arith))
    (named-slot c (size c) place source (omega arith) t.0))

-- ---- one number more

pub mention-first : (c : Claim) (table : Table) (at : TermId) → at.0 < length table.nodes
    → MentionsBelow c table at table at 0
mention-first c table at there =
    record { keeps = Keeps-itself c table at; there = there; said = λ n l. absurd (omega (arith, l)) }

pub mention-more : (c : Claim) (first old new : Table) (formula all id : TermId) (i : ℕ)
    → MentionsBelow c first formula old all i → Keeps c old all new id → id.0 < length new.nodes
    → MentionsNumber c new id i → MentionsBelow c first formula new id (i + 1)
mention-more c first old new formula all id i so keeps there here = record {
  keeps = Keeps-further c first old new formula all id so.keeps keeps;
  there = there;
  said = below-said (MentionsNumber c new id) i
      (λ n l s e. Mentions-kept c old new all id (slot_at n) s keeps (so.said n l s e)) here;
}

-- all slots

pub all-mentioned : (c : Claim) (old new : Table) (at id : TermId) → MentionsBelow c old at new id 1746
    → ((x : Slot) (s : Sort) → IsSlot c x s → IsSmall x) → (x : Slot) (s : Sort) → IsSlot c x s → Mentions new id x s
all-mentioned c old new at id m small x s slot =
    let few = small x s slot in
    let same = slot_at-number x few in
    subst (λ y. Mentions new id y s) same
    (m.said (slot_number x) (slot-number_small x few) s (ap (slot_sort c) same ∙ slot_sort-from c x s slot))
