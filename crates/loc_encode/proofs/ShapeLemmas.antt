-- A test of the shape is a shape.
use Rattle.std.proofs.Common.{◌≡◌, Bool, true, sym, ap, ◌∙◌}
use Rattle.bv_terms.specs.declared.op.TermId.{TermId}
use Rattle.bv_terms.specs.declared.value.Sort.{Sort}
use Rattle.bv_terms.specs.declared.value.Value.TheVariants as val
use Rattle.bv_terms.specs.Subterm.{IsSubterm}
use Rattle.bv_terms.specs.Table.{Table, term_at}
use Rattle.pattern_core.specs.Claim.{Claim}
use Rattle.loc_encode.specs.declared.slots.Slot.{Slot}
use Rattle.loc_encode.specs.Slots.{slot_number, IsSlot}
use Rattle.loc_encode.specs.Parts.{IsShape}
use Rattle.loc_encode.specs.Tests.{chosen, IsTest}
use Rattle.loc_encode.specs.Truths.{input}
use Rattle.loc_encode.specs.Shape.{has_shape}
use Rattle.loc_encode.specs.Reading.{pattern_of}
use Rattle.loc_encode.proofs.TestLemmas.{IsTest-over}
use Rattle.loc_encode.proofs.ReadLemmas.{IsBounded}
use Rattle.loc_encode.proofs.CompleteLemmas.{complete-shape}
use Rattle.loc_encode.proofs.SoundLemmas.{shaped-from, sound-pattern, sound-stands, stands-read}

truths : (b : Bool) → val.Bool b ≡ val.Bool true → b ≡ true
truths b e = cc

pub shape-from_test : (c : Claim) (table : Table) (at : TermId) → IsBounded c → IsTest c table at (has_shape c)
    → ((x : Slot) (s : Sort) → IsSlot c x s → IsSubterm (input (slot_number x) s) (term_at table at))
    → IsShape c table at
shape-from_test c table at within test all = record {
  over = IsTest-over c table at (has_shape c) test;
  all = all;
  sound = λ env fits e.
      let shaped = shaped-from c (chosen env)
      (truths (has_shape c (chosen env)) (sym (test.term.value env fits) ∙ e)) in
      (pattern_of c env, sound-pattern c env within fits shaped, sound-stands c env within fits shaped);
  complete = λ env p pattern canonical stands.
      test.term.value env stands.fits
      ∙ ap (λ b. val.Bool b)
      (complete-shape c (chosen env) p within (stands-read c env p stands) pattern canonical);
}
