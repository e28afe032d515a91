-- Words of private functions: what a call answered, by the outcome of a step.
use Rattle.std.specs.Prelude.{◌≡◌, List, Option, Some, None, Result, Ok, Err, Bool, true, false, ◌⊎◌}
use Rattle.std.proofs.Common.{Vec, Global}
use Rattle.std.specs.declared.cmp.Ordering.{Ordering}
use Rattle.std.specs.declared.cmp.Ordering.TheVariants.{Less, Equal, Greater}
use Rattle.pattern_core.specs.declared.pattern.Pattern.{Pattern}
use Rattle.pattern_text.specs.declared.fault.LibFault.{LibFault}
use Rattle.pattern_text.specs.declared.fault.LibKind.TheVariants as fault
use Rattle.pattern_text.specs.Rules.{is_small}

-- the outcome, or out of memory
abbrev pub IsOutcomeOr : {A : Type 0} → (Result A LibFault → Type 0) → Result A LibFault → Type 0
IsOutcomeOr Step (Ok a) = Step (Ok a)
IsOutcomeOr Step (Err f) = (f.kind ≡ fault.NoMemory) ⊎ Step (Err f)

-- the same of a list
abbrev pub IsListOr : {A : Type 0} → (Result (List A) LibFault → Type 0) → Result (Vec A Global) LibFault → Type 0
IsListOr Step (Ok list) = Step (Ok list.items)
IsListOr Step (Err f) = (f.kind ≡ fault.NoMemory) ⊎ Step (Err f)

-- the pattern that is read where its numbers are small, the fault that is read, or out of memory
abbrev pub IsPatternRead : Result Pattern LibFault → Result (Option Pattern) LibFault → Type 0
IsPatternRead read (Ok (Some p)) = (read ≡ Ok p) × (is_small p ≡ true)
IsPatternRead read (Ok None) = (p : Pattern) × (read ≡ Ok p) × (is_small p ≡ false)
IsPatternRead read (Err f) = (f.kind ≡ fault.NoMemory) ⊎ (read ≡ Err f)

-- two patterns of which neither is less
abbrev pub is_equal : Ordering → Bool
is_equal Less = false
is_equal Equal = true
is_equal Greater = false
