use Rattle.std.proofs.Common.{ℕ, ◌<◌, map}
use Rattle.std.specs.String.{string_bytes}
use Rattle.bv_terms.specs.Table.{term_in, terms_of}
use Rattle.term_text.specs.Text.{InputsAreNamed}
use Rattle.term_tests.proofs.tests.reading.are_named.Given as goal

abbrev pub invariant-loop-place : goal.invariant-loop-place
invariant-loop-place l =
    (k : ℕ) → k < l.place → InputsAreNamed (map string_bytes l.names) (term_in (terms_of l.terms) k)
