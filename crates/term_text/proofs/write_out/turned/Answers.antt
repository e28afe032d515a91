-- A well-sorted term has well-sorted parts, and nodes keep their terms.
use Rattle.std.proofs.Common.{◌≡◌, ◌-◌, ℕ, ◌<◌, length, [], ◌∷◌, sym, ap, ◌∙◌, subst}
use Rattle.bv_terms.specs.declared.op.TermId.{TermId}
use Rattle.bv_terms.specs.declared.op.Op.TheVariants.{Concat}
use Rattle.bv_terms.specs.Table.{Table, term_at, Extends}
use Rattle.term_text.specs.Written.{applied, extracted}
use Rattle.term_text.specs.Build.{terms_at, IsWellSorted, StandsFor}
use Rattle.term_text.proofs.BuildLemmas.{parts-sorted, two-same, StandsFor-kept, IsWellSorted-kept, Extends-further}
use Rattle.term_text.proofs.BuildLemmas.{Builds-after, term_at-kept}
use Rattle.term_text.proofs.write_out.turned.Goals as goal

pub make_fitting-requires-clause-sorted : goal.make_fitting-requires-clause-sorted
make_fitting-requires-clause-sorted c =
    (parts-sorted c.args.terms.now.pointer Concat (_ ∷ _ ∷ []) c.requires.sorted).0

pub make_fitting-requires-2-clause-sorted : goal.make_fitting-requires-2-clause-sorted
make_fitting-requires-2-clause-sorted c =
    let a = c.args.terms.now in
    let b = c.make_fitting.new.terms in
    let more = c.make_fitting.ensures.extends in
    subst (λ t. IsWellSorted b (extracted (c.args.width - 1) (c.args.width - c.args.places) t))
    (sym (term_at-kept a b more c.args.at c.requires.at))
    (IsWellSorted-kept a b more _ (parts-sorted a.pointer Concat (_ ∷ _ ∷ []) c.requires.sorted).1.0)

-- the two parts, each a node of the later table, joined
parts_joined : (a b d : Table) → Extends a b → Extends b d → (w r : ℕ) (at front back : TermId)
    → at.0 < length a.nodes → StandsFor b front (extracted (w - r - 1) 0 (term_at a at))
    → StandsFor d back (extracted (w - 1) (w - r) (term_at b at))
    → applied Concat (terms_at d (front ∷ back ∷ []))
    ≡ applied Concat (extracted (w - r - 1) 0 (term_at a at) ∷ extracted (w - 1) (w - r) (term_at a at) ∷ [])
parts_joined a b d h k w r at front back within first second =
    two-same Concat (term_at d front) (extracted (w - r - 1) 0 (term_at a at)) (term_at d back)
    (extracted (w - 1) (w - r) (term_at a at)) (StandsFor-kept b d k front _ first).term
    (second.term ∙ ap (extracted (w - 1) (w - r)) (term_at-kept a b h at within))

pub make_fitting-requires-3-clause-sorted : goal.make_fitting-requires-3-clause-sorted
make_fitting-requires-3-clause-sorted c =
    let a = c.args.terms.now in
    let b = c.make_fitting.new.terms in
    let d = c.make_fitting-2.new.terms in
    subst (IsWellSorted d)
    (sym (parts_joined a b d c.make_fitting.ensures.extends c.make_fitting-2.ensures.extends c.args.width c.args.places
    c.args.at c.in_ok-front.front c.in_ok-back.back c.requires.at c.in_ok-front.ensures.stands
    c.in_ok-back.ensures.stands))
    (IsWellSorted-kept a d (Extends-further a b d c.make_fitting.ensures.extends c.make_fitting-2.ensures.extends) _
    c.requires.sorted)

pub returns : goal.returns
returns c =
    let a = c.args.terms.now in
    let b = c.make_fitting.new.terms in
    let d = c.make_fitting-2.new.terms in
    Builds-after a d c.make_fitting-3.new.terms c.make_fitting-3.result _ _
    (Extends-further a b d c.make_fitting.ensures.extends c.make_fitting-2.ensures.extends) c.make_fitting-3.ensures
    (parts_joined a b d c.make_fitting.ensures.extends c.make_fitting-2.ensures.extends c.args.width c.args.places
    c.args.at c.in_ok-front.front c.in_ok-back.back c.requires.at c.in_ok-front.ensures.stands
    c.in_ok-back.ensures.stands)
