use Rattle.std.proofs.Common.{◌∙◌, sym, ap, refl, inl, inr, Err}
use Rattle.std.proofs.lemmas.Bool.{false≢true}
use Rattle.isel_spec.specs.Spec.{file}
use Rattle.pattern_text.proofs.VerdictLemmas.{forward, ordered}
use Rattle.pattern_text.proofs.rules.verdict.Goals as goal

pub is_canonical-requires-clause-forward : goal.is_canonical-requires-clause-forward
is_canonical-requires-clause-forward c =
    forward c.args.spec.now c.args.goal c.args.size c.args.pattern c.len.ensures.table
    (c.is_pattern_of.ensures.0 c.if-not-is_pattern_of.false)

pub is_among-requires-clause-ordered : goal.is_among-requires-clause-ordered
is_among-requires-clause-ordered c =
    ordered (file c.args.spec.now) c.args.goal c.args.size c.args.pattern c.args.earlier.now c.order_is_total.ensures
    (c.is_pattern_of.ensures.0 c.if-not-is_pattern_of.false) c.requires.earlier_listed

pub returns-then-is_among-clause-read : goal.returns-then-is_among-clause-read
returns-then-is_among-clause-read c =
    inl (
      c.is_pattern_of.ensures.0 c.if-not-is_pattern_of.false,
      inl (
        c.is_canonical.ensures.0 c.if-not-is_canonical.false,
        inr ((λ new. new (c.is_among.ensures.0 c.if-is_among.true)), ap Err c.fault_at-then-is_among.ensures),
      ),
    )

pub returns-clause-read : goal.returns-clause-read
returns-clause-read c =
    inl (
      c.is_pattern_of.ensures.0 c.if-not-is_pattern_of.false,
      inl (
        c.is_canonical.ensures.0 c.if-not-is_canonical.false,
        inl ((λ earlier. false≢true (sym c.if-is_among.false ∙ c.is_among.ensures.1 earlier)), refl),
      ),
    )

pub returns-clause-new : goal.returns-clause-new
returns-clause-new c = λ earlier. false≢true (sym c.if-is_among.false ∙ c.is_among.ensures.1 earlier)
