-- The steps of the walk over a library's trees. That a pattern is well-formed, and canonical, are no tests here but the
-- definitions themselves, so the walk is a relation: a step has an outcome, and what follows it has one of its own.
use Rattle.std.specs.Prelude.{◌≡◌, ℕ, Option, Some, None, Result, Ok, Err, ◌⊎◌}
use Rattle.sexp_read.specs.Tree.{Tree, from_of, to_of}
use Rattle.pattern_text.specs.declared.fault.LibFault.{LibFault}
use Rattle.pattern_text.specs.declared.fault.LibKind.{LibKind}

-- the place of a tree's first byte, and the place after its last
abbrev pub Span : Type 0
Span = ℕ × ℕ

abbrev pub span_of : Tree → Span
span_of tree = (from_of tree, to_of tree)

abbrev pub fault_at : LibKind → Span → LibFault
fault_at kind span = record { kind = kind; from = span.0; to = span.1 }

-- what follows, where there is no fault before it
abbrev pub and_then : {A B : Type 0} → Result A LibFault → (A → Result B LibFault) → Result B LibFault
and_then (Ok a) next = next a
and_then (Err f) next = Err f

abbrev pub or_fault : {A : Type 0} → LibKind → Span → Option A → Result A LibFault
or_fault kind span (Some a) = Ok a
or_fault kind span None = Err (fault_at kind span)

-- the outcome of a step that is computed
abbrev pub IsThat : {A : Type 0} → Result A LibFault → Result A LibFault → Type 0
IsThat computed outcome = outcome ≡ computed

-- a step that is told by a relation, and what follows it where it has no fault
abbrev pub AndThen : {A B : Type 0} → (Result A LibFault → Type 0) → (A → Result B LibFault → Type 0)
    → Result B LibFault → Type 0
AndThen {A = A} Step Next outcome =
    ((a : A) × Step (Ok a) × Next a outcome) ⊎ ((f : LibFault) × Step (Err f) × (outcome ≡ Err f))

-- what follows where something holds, and a fault where it does not
abbrev pub Where : {A : Type 0} → Type 0 → LibFault → (Result A LibFault → Type 0) → Result A LibFault → Type 0
Where Holds f Next outcome = (Holds × Next outcome) ⊎ ((¬ Holds) × (outcome ≡ Err f))
