use Rattle.std.proofs.Common.{◌≡◌, ◌<◌, length, drop}
use Rattle.bv_terms.specs.declared.op.Op.TheVariants.{And}
use Rattle.bv_terms.specs.Table.{term_at, Extends}
use Rattle.term_text.specs.Written.{left, left_from, inequations}
use Rattle.term_text.specs.Build.{terms_at}
use Rattle.term_text.proofs.write_out.distinct.Given as goal

-- what is joined so far, joined with the inequations of the terms that are left, is all of it joined
abbrev pub invariant-loop-place : goal.invariant-loop-place
invariant-loop-place l = record {
  extends : Extends l.fn.terms l.terms;
  within : l.all.0 < length l.terms.nodes;
  whole : left_from And (term_at l.terms l.all) (inequations (drop l.place (terms_at l.fn.terms l.args)))
      ≡ left And (inequations (terms_at l.fn.terms l.args));
}
