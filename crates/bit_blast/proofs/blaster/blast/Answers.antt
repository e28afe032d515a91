use Rattle.std.proofs.Common.{◌∙◌, ◌++◌, ◌∷◌, [], map, ap, subst}
use Rattle.bv_terms.specs.Table.{term_at}
use Rattle.bit_blast.specs.Clauses.{AreClausesFor}
use Rattle.bit_blast.proofs.blaster.blast.Goals as goal

pub assert-requires : goal.assert-requires
assert-requires c = record {
  right = c.in_ok-blaster.ensures.right c.args.terms.now;
  there = c.requires.there;
  truth = c.requires.truth;
}

pub returns : goal.returns
returns c =
    let table = c.args.terms.now in
    subst (λ fs. AreClausesFor (map (term_at table) fs) c.into_blasted.result.cnf c.into_blasted.result.bits)
    (c.in_ok-blaster-2.ensures.formulas ∙ ap (λ fs. fs ++ c.args.formula ∷ []) c.in_ok-blaster.ensures.formulas)
    (c.into_blasted.ensures table c.in_ok-blaster-2.ensures.right)
