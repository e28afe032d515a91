use Rattle.std.proofs.Common.{◌≡◌, ◌<◌, ◌-◌, length, replicate}
use Rattle.bv_terms.specs.declared.op.Op.TheVariants.{Concat}
use Rattle.bv_terms.specs.Table.{term_at, Extends}
use Rattle.term_text.specs.Written.{left, left_from, first_term}
use Rattle.term_text.specs.Build.{terms_at}
use Rattle.term_text.proofs.write_out.repeated.Given as goal

-- the copies so far, with those that are left, are all of them
abbrev pub invariant-loop-copies : goal.invariant-loop-copies
invariant-loop-copies l = record {
  extends : Extends l.fn.terms l.terms;
  within : l.joined.0 < length l.terms.nodes;
  whole : left_from Concat (term_at l.terms l.joined)
      (replicate (l.by - l._copies) (first_term (terms_at l.fn.terms l.args)))
      ≡ left Concat (replicate l.by (first_term (terms_at l.fn.terms l.args)));
}
