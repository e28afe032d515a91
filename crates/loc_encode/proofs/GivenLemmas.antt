-- What is known of the claim of a goal of a file.
use Rattle.std.proofs.Common.{◌≡◌, ℕ, ◌<◌, List, [], length, slice_get, unwrap_or, sym, ap, ◌∙◌, subst}
use Rattle.std.proofs.Common.{arith, Contains}
use Rattle.std.specs.Prelude.{nat_le}
use Rattle.std.proofs.lemmas.Bool.{and_parts, leb-true}
use Rattle.std.proofs.lemmas.List.Elements.{All-contains}
use Rattle.bv_terms.specs.declared.op.TermId.{TermId}
use Rattle.bv_terms.specs.declared.value.Sort.{Sort}
use Rattle.bv_terms.specs.Sorts.{IsSized}
use Rattle.bv_terms.specs.Table.{Table, IsTable}
use Rattle.isel_spec.specs.File.{File, Operation, is_between}
use Rattle.isel_spec.specs.Spec.{file}
use Rattle.isel_spec.specs.declared.spec.Spec.{Spec}
use Rattle.isel_spec.proofs.SpecLemmas.{IsSoundOp_at, few_ops}
use Rattle.pattern_core.specs.Claim.{Claim, IsClaim}
use Rattle.multiset_rank.specs.Multisets.{IsMulti}
use Rattle.list_lemmas.proofs.Lookups.{list_all_at}
use Rattle.loc_encode.specs.declared.slots.Slot.{Slot}
use Rattle.loc_encode.specs.declared.slots.Slot.TheVariants as slot
use Rattle.loc_encode.specs.Slots.{IsSlot}
use Rattle.loc_encode.specs.Numbers.{IsSmall}
use Rattle.loc_encode.specs.Given.{IsGiven}
use Rattle.loc_encode.specs.Parts.{IsShape}
use Rattle.loc_encode.specs.Tests.{IsTest}
use Rattle.loc_encode.specs.declared.layout.Layout.{Layout}
use Rattle.loc_encode.specs.Layout.{claim_of}
use Rattle.loc_encode.specs.Claimed.{claim_in}
use Rattle.loc_encode.proofs.LayoutFacts.{claim_in-is}
use Rattle.loc_encode.specs.Shape.{has_shape}
use Rattle.loc_encode.specs.Mentions.{HasSizedSlots, MentionsBelow}
use Rattle.loc_encode.proofs.BoundLemmas.{op-def, claim-bounded}
use Rattle.loc_encode.proofs.ClaimLemmas.{IsLimitedClaim-from_spec, has_claim, IsSmall-slot}
use Rattle.loc_encode.proofs.SlotSortLemmas.{all-mentioned}
use Rattle.loc_encode.proofs.ShapeLemmas.{shape-from_test}

-- a claim of the file is the one of the layout
pub claim_of-same : (s : Spec) (place : ℕ) (ops : List ℕ) (c : Claim) → IsClaim s place ops c
    → c ≡ claim_of s place ops
unfolding claim_of
claim_of-same s place ops c is =
    let goals : c.goal ≡ unwrap_or (slice_get (file s).goals place)
    (record { name = []; kinds = []; args = []; cost = 0; results = [] }) =
    sym (ap (λ o. unwrap_or o (record { name = []; kinds = []; args = []; cost = 0; results = [] })) is.of_goal) in
    λ i. record { file = is.of_file i; goal = goals i; ops = is.of_ops i }

sized-claim : (s : Spec) (place : ℕ) (ops : List ℕ) (c : Claim) → IsClaim s place ops c → HasSizedSlots c
sized-claim s place ops c is (slot.Kind line op) t h = subst IsSized (sym h.2) tt
sized-claim s place ops c is (slot.Attr line op at) t h =
    let o : Operation = h.1.0 in
    let w : ℕ = h.1.1 in
    let there = h.1.2 in
    let in-file = ap (λ (f : File). slice_get f.ops op) (sym is.of_file) ∙ there.1 in
    let d = op-def s op h.1.0 in-file in
    let sound = IsSoundOp_at s op d.0 d.1 in
    let width = list_all_at (is_between 1 64) d.0.1.attrs at h.1.1 sound.attrs
    (ap (λ (x : Operation). slice_get x.attrs at) d.2 ∙ h.1.3) in
    let parts = and_parts (nat_le 1 h.1.1) (nat_le h.1.1 64) width in
    subst IsSized (sym h.1.4) (leb-true 1 h.1.1 parts.0, leb-true h.1.1 64 parts.1)
sized-claim s place ops c is (slot.Arg line at source) t h = subst IsSized (sym h.2) tt
sized-claim s place ops c is (slot.Result at source) t h = subst IsSized (sym h.1) tt

pub sized-slots : (s : Spec) (place : ℕ) (ops : List ℕ) → place < length s.goals → HasSizedSlots (claim_of s place ops)
sized-slots s place ops within =
    let one = has_claim s place ops within in
    subst HasSizedSlots (claim_of-same s place ops one.0 one.1) (sized-claim s place ops one.0 one.1)

small-slots : (s : Spec) → IsTable s.terms → (place : ℕ) (ops : List ℕ) → IsGiven s place ops → IsMulti ops
    → (c : Claim) → IsClaim s place ops c → (x : Slot) (t : Sort) → IsSlot c x t → IsSmall x
small-slots s table place ops given multi c is =
    IsSmall-slot c (IsLimitedClaim-from_spec s place ops c table multi.0 is)
    (λ op there.
    let l : op < length s.ops = All-contains (λ op. op < length s.ops) ops op given.there
    (subst (λ (xs : List ℕ). Contains xs op) is.of_ops there) in
    omega (arith, l, few_ops s))

pub shape-made : (s : Spec) → IsTable s.terms → (place : ℕ) (ops : List ℕ) → IsGiven s place ops → IsMulti ops
    → (c : Claim) → IsClaim s place ops c → (old new : Table) (at id : TermId)
    → IsTest (claim_of s place ops) old at (has_shape (claim_of s place ops))
    → MentionsBelow (claim_of s place ops) old at new id 1746 → IsShape c new id
shape-made s table place ops given multi c is old new at id test mentions =
    let same = sym (claim_of-same s place ops c is) in
    let test' = subst (λ (d : Claim). IsTest d old at (has_shape d)) same test in
    let mentions' = subst (λ (d : Claim). MentionsBelow d old at new id 1746) same mentions in
    let keeps = mentions'.keeps in
    shape-from_test c new id (claim-bounded s table place ops given multi c is) (keeps.test (has_shape c) test')
    (all-mentioned c old new at id mentions' (small-slots s table place ops given multi c is))

-- ---- of a layout

pub sized-layout : (l : Layout) → HasSizedSlots (claim_in l)
sized-layout l = subst HasSizedSlots (sym (claim_in-is l)) (sized-slots l.spec.now l.goal l.ops.now l.place)

pub shape-layout : (l : Layout) (ops : List ℕ) → IsTable l.spec.now.terms → IsGiven l.spec.now l.goal ops → IsMulti ops
    → l.ops.now ≡ ops → (c : Claim) → IsClaim l.spec.now l.goal ops c → (old new : Table) (at id : TermId)
    → IsTest (claim_in l) old at (has_shape (claim_in l)) → MentionsBelow (claim_in l) old at new id 1746
    → IsShape c new id
shape-layout l ops table given multi numbers c is old new at id test mentions =
    let same : claim_in l ≡ claim_of l.spec.now l.goal ops = claim_in-is l ∙ ap (claim_of l.spec.now l.goal) numbers in
    shape-made l.spec.now table l.goal ops given multi c is old new at id
    (subst (λ (d : Claim). IsTest d old at (has_shape d)) same test)
    (subst (λ (d : Claim). MentionsBelow d old at new id 1746) same mentions)
