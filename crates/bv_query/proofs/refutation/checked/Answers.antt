use Rattle.std.proofs.Common.{sym}
use Rattle.proof_check.specs.declared.check.Verdict.TheVariants.{Refuted}
use Rattle.bv_query.proofs.refutation.checked.Goals as goal

-- what the checker tells is the only verdict
pub returns-in_default : goal.returns-in_default
returns-in_default c = record {
  formula = tt;
  bits = tt;
  chains = tt;
  none = λ accepted. c.in_default.not-Refuted (sym (c.in_ok-verdict.ensures.only Refuted accepted));
}
