use Rattle.std.proofs.Common.{length, sym, ap, ◌∙◌}
use Rattle.cnf_core.specs.Clause.{lit_true}
use Rattle.circuit.specs.Gate.{majority}
use Rattle.circuit.proofs.ClauseLemmas.{opposite-true}
use Rattle.circuit.proofs.FunctionLemmas.{majority-pair}
use Rattle.circuit.proofs.circuit.Circuit.majority_lits.Goals as goal

pub returns-in-Opposite-clause-value : goal.returns-in-Opposite-clause-value
returns-in-Opposite-clause-value c =
    record {
      over =
          (c.ordered_three.ensures.over (length c.args.self.now.gates) c.requires.a c.requires.b c.requires.c).2;
      value =
          λ v h. sym (majority-pair (lit_true v c.ordered_three.result.0) (lit_true v c.ordered_three.result.2))
          ∙ ap (λ x. majority (lit_true v c.ordered_three.result.0) x (lit_true v c.ordered_three.result.2))
          (sym (opposite-true _ _ c.in-Opposite.ensures v))
          ∙ c.ordered_three.ensures.majority v;
    }
