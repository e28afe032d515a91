use Rattle.std.proofs.Common.{◌≡◌, ◌≤◌, Some, slice_get}
use Rattle.isel_spec.specs.File.{Goal}
use Rattle.isel_spec.specs.Spec.{file}
use Rattle.pattern_core.specs.declared.pattern.Src.{Src}
use Rattle.loc_encode.specs.Slots.{source_number}
use Rattle.loc_encode.specs.SlotValues.{IsChosenSource}
use Rattle.loc_encode.proofs.decoding.source_of.Given as goal

abbrev pub invariant-loop-number : goal.invariant-loop-number
invariant-loop-number l =
    (g : Goal) (s : Src) → slice_get (file l.spec).goals l.goal ≡ Some g
    → IsChosenSource (file l.spec) g l.nodes l.sort l.values l.first s → l.number ≤ source_number s
