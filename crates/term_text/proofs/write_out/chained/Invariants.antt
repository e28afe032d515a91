use Rattle.std.proofs.Common.{◌≡◌, ◌<◌, length, drop}
use Rattle.bv_terms.specs.declared.op.Op.TheVariants.{And}
use Rattle.bv_terms.specs.Table.{term_at, Extends}
use Rattle.term_text.specs.Written.{left, left_from, equations, equations_from}
use Rattle.term_text.specs.Build.{terms_at}
use Rattle.term_text.proofs.write_out.chained.Given as goal

-- the equations so far, joined with those that are left, are all of them joined
abbrev pub invariant-loop-next : goal.invariant-loop-next
invariant-loop-next l = record {
  extends : Extends l.fn.terms l.terms;
  last : l.last.0 < length l.fn.terms.nodes;
  within : l.all.0 < length l.terms.nodes;
  whole : left_from And (term_at l.terms l.all)
      (equations_from (term_at l.fn.terms l.last) (drop l.next-index (terms_at l.fn.terms l.rest)))
      ≡ left And (equations (terms_at l.fn.terms l.args));
}
