use Rattle.std.proofs.Common.{◌≡◌, List, ap, sym, ◌∙◌, length, arith}
use Rattle.cnf_core.specs.declared.clause.Clause.{Clause}
use Rattle.cdcl_base.proofs.ClauseLemmas.{length-clauses_of}
use Rattle.cdcl_base.proofs.clauses.Clauses.len.Goals as goal

pub returns : goal.returns
returns c =
    let count : c.len.result ≡ length c.self.inside.ends.items = omega arith in
    count ∙ sym (length-clauses_of c.self.inside.lits.items 0 c.self.inside.ends.items)
    ∙ ap (λ (cs : List Clause). length cs) c.self.view_is
