-- The multiset of an open claim.
use Rattle.std.proofs.Common.{◌≡◌, ◌∙◌, ℕ, ◌<◌, ◌≤◌, List, length, Option, Some, None, Result, Ok, Err, Bool, true}
use Rattle.std.proofs.Common.{false, ◌&&◌, refl, sym, ap, subst, arith, ◌⊎◌, inl, inr, ◌↔◌}
use Rattle.std.specs.Prelude.{nat_le}
use Rattle.std.proofs.lemmas.Bool.{false≢true, cases_lt}
use Rattle.list_lemmas.proofs.Bools.{le_true, le-from_test, false_unless, and-both, and_false}
use Rattle.sexp_read.specs.Tree.{Tree}
use Rattle.isel_spec.specs.File.{File}
use Rattle.multiset_rank.specs.Multisets.{never_falls}
use Rattle.pattern_text.specs.declared.fault.LibFault.{LibFault}
use Rattle.pattern_text.specs.declared.fault.LibKind.TheVariants as fault
use Rattle.pattern_text.specs.Steps.{Span, span_of, fault_at, and_then, or_fault, IsThat}
use Rattle.pattern_text.specs.Form.{where_true, open_in}
use Rattle.pattern_text.specs.Rules.{ops_read, multi_of, open_read}
use Rattle.pattern_text.specs.Outcomes.{IsOutcomeOr}
use Rattle.pattern_text.proofs.PartialLemmas.{where-yes, where-no}

-- ---- at most six operations that never fall

few : (n : ℕ) → (6 < n → ⊥) → n ≤ 6
few n h = by (cases_lt 6 n)
  where
    by : (6 < n) ⊎ (n ≤ 6) → n ≤ 6
    by (inl l) = absurd (h l)
    by (inr l) = l

not-false : (b : Bool) → (b ≡ false → ⊥) → b ≡ true
not-false true h = refl
not-false false h = absurd (h refl)

too-many : (n : ℕ) → 6 < n → nat_le n 6 ≡ false
too-many n l = false_unless (nat_le n 6) (λ t. absurd (omega (arith, le-from_test n 6 t, l)))

abbrev IsNoMulti : List ℕ → Type 0
IsNoMulti ops = (6 < length ops) ⊎ (never_falls ops ≡ false)

pub multi-some : (ops multi : List ℕ) (span : Span) → ((true ≡ false) ↔ IsNoMulti ops) → multi ≡ ops
    → Ok multi ≡ or_fault fault.Shape span (multi_of ops)
multi-some ops multi span h e =
    let no : IsNoMulti ops → ⊥ = λ p. false≢true (sym (h.1 p)) in
    let short : nat_le (length ops) 6 ≡ true = le_true (length ops) 6 (few (length ops) (λ l. no (inl l))) in
    let rising : never_falls ops ≡ true = not-false (never_falls ops) (λ f. no (inr f)) in
    ap Ok e
    ∙ sym (ap (or_fault fault.Shape span) (where-yes (nat_le (length ops) 6 && never_falls ops) ops
    (and-both (nat_le (length ops) 6) (never_falls ops) short rising)))

multi-fails : (ops : List ℕ) → IsNoMulti ops → (nat_le (length ops) 6 && never_falls ops) ≡ false
multi-fails ops (inl l) = ap (λ b. b && never_falls ops) (too-many (length ops) l)
multi-fails ops (inr f) = and_false (nat_le (length ops) 6) (never_falls ops) f

pub multi-none : (ops : List ℕ) (span : Span) (e : LibFault) → ((false ≡ false) ↔ IsNoMulti ops)
    → e ≡ fault_at fault.Shape span → Err e ≡ or_fault fault.Shape span (multi_of ops)
multi-none ops span e h is =
    ap Err is
    ∙ sym (ap (or_fault fault.Shape span) (where-no (nat_le (length ops) 6 && never_falls ops) ops
    (multi-fails ops (h.0 refl))))

-- ---- the steps of an open claim

that-or : {A : Type 0} (computed r : Result A LibFault) → r ≡ computed → IsOutcomeOr (IsThat computed) r
that-or computed (Ok a) e = e
that-or computed (Err f) e = inr e

abbrev multi_read : Span → List ℕ → Result (List ℕ) LibFault
multi_read span ops = or_fault fault.Shape span (multi_of ops)

pub words-told : (r : Result (List ℕ) LibFault) (span : Span) (ops slice : List ℕ) (result : Result (List ℕ) LibFault)
    → Ok ops ≡ r → slice ≡ ops → result ≡ multi_read span slice
    → IsOutcomeOr (IsThat (and_then r (multi_read span))) result
words-told r span ops slice result h s e =
    that-or (and_then r (multi_read span)) result
    (e ∙ ap (multi_read span) s ∙ ap (λ (q : Result (List ℕ) LibFault). and_then q (multi_read span)) h)

pub words-stopped : (r : Result (List ℕ) LibFault) (span : Span) (e : LibFault)
    → (e.kind ≡ fault.NoMemory) ⊎ (Err e ≡ r)
    → (e.kind ≡ fault.NoMemory) ⊎ (Err e ≡ and_then r (multi_read span))
words-stopped r span e (inl n) = inl n
words-stopped r span e (inr h) =
    inr (ap (λ (q : Result (List ℕ) LibFault). and_then q (multi_read span)) h)

abbrev words_read : File → Span → List Tree → Result (List ℕ) LibFault
words_read f span words = and_then (ops_read f words) (multi_read span)

pub open-told : (f : File) (t : Tree) (span : Span) (words : List Tree) (r : Result (List ℕ) LibFault)
    → span ≡ span_of t → Some words ≡ open_in t → IsOutcomeOr (IsThat (words_read f span words)) r
    → IsOutcomeOr (IsThat (open_read f t)) r
open-told f t span words r e h told =
    subst (λ (o : Option (List Tree)).
    IsOutcomeOr (IsThat (and_then (or_fault fault.Shape (span_of t) o) (words_read f (span_of t)))) r) h
    (subst (λ (s : Span). IsOutcomeOr (IsThat (words_read f s words)) r) e told)

pub open-none : (f : File) (t : Tree) (span : Span) (e : LibFault) → span ≡ span_of t → None ≡ open_in t
    → e ≡ fault_at fault.Shape span → (e.kind ≡ fault.NoMemory) ⊎ (Err e ≡ open_read f t)
open-none f t span e s h is =
    inr (ap Err (is ∙ ap (fault_at fault.Shape) s)
    ∙ ap (λ (o : Option (List Tree)). and_then (or_fault fault.Shape (span_of t) o) (words_read f (span_of t))) h)
