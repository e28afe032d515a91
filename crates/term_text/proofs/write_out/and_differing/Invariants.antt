use Rattle.std.proofs.Common.{◌≡◌, ◌<◌, length, drop, map}
use Rattle.bv_terms.specs.declared.op.Op.TheVariants.{And}
use Rattle.bv_terms.specs.Table.{term_at, Extends}
use Rattle.term_text.specs.Written.{left_from, inequation}
use Rattle.term_text.specs.Build.{terms_at}
use Rattle.term_text.proofs.write_out.and_differing.Given as goal

-- what is joined so far, joined with what is left, is all of it joined
abbrev pub invariant-loop-other : goal.invariant-loop-other
invariant-loop-other l = record {
  extends : Extends l.fn.terms l.terms;
  within : l.all.0 < length l.terms.nodes;
  whole : left_from And (term_at l.terms l.all)
      (map (inequation (term_at l.fn.terms l.at)) (drop l.other-index (terms_at l.fn.terms l.later)))
      ≡ left_from And (term_at l.fn.terms l.fn.given)
      (map (inequation (term_at l.fn.terms l.at)) (terms_at l.fn.terms l.later));
}
