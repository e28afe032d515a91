use Rattle.std.proofs.Common.{◌≡◌, ◌∙◌}
use Rattle.std.proofs.lemmas.Result.{IfOk-weaker}
use Rattle.bv_terms.specs.Table.{term_at}
use Rattle.bv_terms.proofs.GraftLemmas.{Extends-term}
use Rattle.cegis_loop.specs.Miter.{equal, both}
use Rattle.cegis_loop.proofs.miter.and_equal.Goals as goal

pub returns-clause-term : goal.returns-clause-term
returns-clause-term c =
    let old = c.args.terms.now in
    let middle = c.node.new.terms in
    let new = c.node-2.new.terms in
    let f = c.args.formula in
    let x = c.args.input in
    let first : term_at middle f ≡ term_at old f =
    Extends-term old middle c.in_ok-same.ensures.extends f c.requires.formula in
    let second : term_at middle c.in_ok-same.same ≡ equal (term_at old x) (term_at old x) = c.in_ok-same.ensures.term in
    IfOk-weaker c.node-2.result (λ id. term_at new id ≡ both (term_at middle f) (term_at middle c.in_ok-same.same))
    (λ id. term_at new id ≡ both (term_at old f) (equal (term_at old x) (term_at old x)))
    (λ id h. h ∙ (λ i. both (first i) (second i))) c.node-2.ensures.term
