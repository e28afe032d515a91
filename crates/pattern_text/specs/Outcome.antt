-- What a text is: a library, or its first fault.
use Rattle.std.specs.Prelude.{◌≡◌, ℕ, ◌+◌, ◌≤◌, List, length, Result, Err, IsTrue, ◌⊎◌}
use Rattle.std.specs.List.{list_all}
use Rattle.sexp_read.specs.declared.fault.SexpFault.{SexpFault}
use Rattle.sexp_read.specs.declared.fault.SexpFault.TheVariants as text
use Rattle.sexp_read.specs.Token.{is_text_byte, tokens}
use Rattle.sexp_read.specs.Tree.{Trees, flatten, depth, depth_limit, list_of}
use Rattle.sexp_read.specs.Fault.{IsFault}
use Rattle.isel_spec.specs.File.{File}
use Rattle.pattern_text.specs.declared.fault.LibFault.{LibFault}
use Rattle.pattern_text.specs.declared.fault.LibKind.TheVariants as fault
use Rattle.pattern_text.specs.declared.claimed.Claimed.{Claimed}
use Rattle.pattern_text.specs.Steps.{fault_at}
use Rattle.pattern_text.specs.Reading.{IsLibrary}

-- a fault of the text's lists, which stands at one byte
abbrev pub text_fault : SexpFault → LibFault
text_fault (text.NotText place) = fault_at fault.NotText (place, place + 1)
text_fault (text.Unclosed place) = fault_at fault.Unclosed (place, place + 1)
text_fault (text.Stray place) = fault_at fault.Stray (place, place + 1)
text_fault (text.Deep place) = fault_at fault.Deep (place, place + 1)
text_fault text.NoMemory = fault_at fault.NoMemory (0, 0)

-- the bytes are a text, namely these trees
pub record AreTrees (bytes : List ℕ) (trees : Trees) : Type 0 where
  pub text : IsTrue (list_all is_text_byte bytes)
  pub spelled : tokens bytes ≡ flatten trees
  pub nested : depth trees ≤ depth_limit

-- what a text is beside a file: the first fault of its lists, or else what the walk over its trees gives
abbrev pub IsOutcome : File → List ℕ → Result (List Claimed) LibFault → Type 0
IsOutcome f bytes outcome =
    ((fault : SexpFault) × IsFault bytes fault × (outcome ≡ Err (text_fault fault)))
    ⊎ ((trees : Trees) × AreTrees bytes trees × IsLibrary f (length bytes) (list_of trees) outcome)
