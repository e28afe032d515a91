use Rattle.std.proofs.Common.{ap, ◌++◌, ◌∷◌, [], ◌∙◌}
use Rattle.cnf_core.specs.Resolution.{clause}
use Rattle.cdcl_base.proofs.ClauseLemmas.{pushed}
use Rattle.cdcl_base.proofs.clauses.Clauses.push_unpacked.Goals as goal

pub invariant_of-self-2 : goal.invariant_of-self-2
invariant_of-self-2 c =
    (pushed c.self.inside.lits.items c.push_unpacked_lits.new.lits.items c.args.lits.now c.self.inside.ends.items
    c.push_unpacked_lits.new.ends.items c.self.invariant c.in_ok-push_unpacked_lits.ensures.lits
    c.in_ok-push_unpacked_lits.ensures.ends).0

pub returns-clause-ok : goal.returns-clause-ok
returns-clause-ok c =
    (pushed c.self.inside.lits.items c.push_unpacked_lits.new.lits.items c.args.lits.now c.self.inside.ends.items
    c.push_unpacked_lits.new.ends.items c.self.invariant c.in_ok-push_unpacked_lits.ensures.lits
    c.in_ok-push_unpacked_lits.ensures.ends).1
    ∙ ap (λ cs. cs ++ clause c.args.lits.now ∷ []) c.self.view_is
