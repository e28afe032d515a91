use Rattle.std.proofs.Common.{◌≡◌, ◌<◌, length, drop}
use Rattle.bv_terms.specs.Table.{term_at, Extends}
use Rattle.term_text.specs.Written.{left, left_from}
use Rattle.term_text.specs.Build.{terms_at}
use Rattle.term_text.proofs.write_out.left.Given as goal

-- what is joined so far, joined with the terms that are left, is all of them joined
abbrev pub invariant-loop-next : goal.invariant-loop-next
invariant-loop-next l = record {
  extends : Extends l.fn.terms l.terms;
  within : l.joined.0 < length l.terms.nodes;
  whole : left_from l.op (term_at l.terms l.joined) (drop l.next-index (terms_at l.fn.terms l.rest))
      ≡ left l.op (terms_at l.fn.terms l.args);
}
