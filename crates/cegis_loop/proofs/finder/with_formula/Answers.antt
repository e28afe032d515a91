use Rattle.std.proofs.lemmas.List.Elements.{All-push}
use Rattle.bv_terms.specs.declared.op.TermId.{TermId}
use Rattle.loc_encode.specs.Parts.{IsTruthOver}
use Rattle.cegis_loop.proofs.FinderLemmas.{formulas-one_sort}
use Rattle.cegis_loop.proofs.finder.with_formula.Goals as goal

pub assert-requires-clause-there : goal.assert-requires-clause-there
assert-requires-clause-there c =
    let k = c.has_one_claim.ensures.there in
    (c.requires.over k.0 k.1).there

pub assert-requires-clause-truth : goal.assert-requires-clause-truth
assert-requires-clause-truth c =
    let k = c.has_one_claim.ensures.there in
    record {
      truth = (c.requires.over k.0 k.1).truth;
      no_memory = c.inputs_have_one_sort.ensures.no_memory k.0 c.args.terms.now c.args.formula k.1
          (c.requires.over k.0 k.1);
    }

pub assert-requires-clause-one_sort : goal.assert-requires-clause-one_sort
assert-requires-clause-one_sort c =
    let k = c.has_one_claim.ensures.there in
    let over = λ (at : TermId). IsTruthOver k.0 c.args.terms.now at in
    formulas-one_sort c.args.terms.now _ over
    (All-push over c.args.session.blast.formulas c.args.formula (c.requires.before k.0 k.1) (c.requires.over k.0 k.1))
    (λ a b. c.inputs_have_one_sort.ensures.one_sort k.0 c.args.terms.now a b k.1)
