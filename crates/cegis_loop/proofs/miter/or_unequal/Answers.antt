use Rattle.std.proofs.Common.{◌≡◌, ◌∙◌}
use Rattle.std.proofs.lemmas.Result.{IfOk-weaker}
use Rattle.bv_terms.specs.declared.op.Op.TheVariants as op
use Rattle.bv_terms.specs.Table.{term_at, Extends}
use Rattle.bv_terms.specs.Term.{Apply, End, Then}
use Rattle.bv_terms.proofs.GraftLemmas.{Extends-term, Extends-further}
use Rattle.cegis_loop.specs.Miter.{equal, unequal, either}
use Rattle.cegis_loop.proofs.miter.or_unequal.Goals as goal

pub returns-clause-term : goal.returns-clause-term
returns-clause-term c =
    let old = c.args.terms.now in
    let one = c.node.new.terms in
    let two = c.node-2.new.terms in
    let new = c.node-3.new.terms in
    let f = c.args.formula in
    let l = term_at old c.args.left in
    let r = term_at old c.args.right in
    let grows : Extends old two =
    Extends-further old one two c.in_ok-same.ensures.extends c.in_ok-differs.ensures.extends in
    let first : term_at two f ≡ term_at old f = Extends-term old two grows f c.requires.formula in
    let same : term_at one c.in_ok-same.same ≡ equal l r = c.in_ok-same.ensures.term in
    let opposite : term_at two c.in_ok-differs.differs ≡ Apply op.Not (Then (term_at one c.in_ok-same.same) End) =
    c.in_ok-differs.ensures.term in
    let second : term_at two c.in_ok-differs.differs ≡ unequal l r =
    opposite ∙ (λ i. Apply op.Not (Then (same i) End)) in
    IfOk-weaker c.node-3.result
    (λ id. term_at new id ≡ either (term_at two f) (term_at two c.in_ok-differs.differs))
    (λ id. term_at new id ≡ either (term_at old f) (unequal l r))
    (λ id h. h ∙ (λ i. either (first i) (second i))) c.node-3.ensures.term
