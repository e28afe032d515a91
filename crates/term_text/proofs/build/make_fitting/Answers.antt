-- The node that was made is the operation over the terms of the arguments.
use Rattle.std.proofs.Common.{ap, ◌∙◌}
use Rattle.bv_terms.specs.Term.{Apply}
use Rattle.term_text.proofs.BuildLemmas.{operands_of-terms_at}
use Rattle.term_text.proofs.build.make_fitting.Goals as goal

pub returns-in-Ok : goal.returns-in-Ok
returns-in-Ok c = record {
  extends = c.make.ensures.extends;
  stands = record {
    within = c.in-Ok.ensures.within;
    term = c.in-Ok.ensures.term ∙ ap (Apply c.args.op) (operands_of-terms_at c.args.terms.now c.args.args.now);
  };
}
