use Rattle.std.proofs.Common.{subst}
use Rattle.cegis_loop.specs.Finder.{IsDecidedFor}
use Rattle.cegis_loop.proofs.FinderLemmas.{find-decided}
use Rattle.cegis_loop.proofs.finder.find.Goals as goal

pub concluded-requires-clause-decided : goal.concluded-requires-clause-decided
concluded-requires-clause-decided c =
    let n = c.args.finder.now in
    let d = c.in_ok-decision.decision in
    let decided = c.in_ok-decision.ensures in
    subst (λ units. IsDecidedFor c.args.spec.now n.terms n.encoded units d) c.new-fuel.ensures
    (find-decided c.args.spec.now n c.new-fuel.result c.decide.new.fuel d c.requires.right
    c.has_one_claim.ensures.there c.patterns_have_values.ensures.some (record {
      witness = decided.yes;
      none = decided.no;
      clauses = decided.clauses;
      new_clauses = decided.new_clauses;
      count = decided.count;
      spent = decided.spent;
    }))
