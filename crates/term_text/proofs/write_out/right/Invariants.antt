use Rattle.std.proofs.Common.{◌≡◌, ◌<◌, ◌++◌, ◌∷◌, [], length, take}
use Rattle.bv_terms.specs.Table.{term_at, Extends}
use Rattle.term_text.specs.Written.{right}
use Rattle.term_text.specs.Build.{terms_at}
use Rattle.term_text.proofs.write_out.right.Given as goal

-- the terms that are left, joined with what is joined so far, are all of them joined
abbrev pub invariant-loop-place : goal.invariant-loop-place
invariant-loop-place l = record {
  extends : Extends l.fn.terms l.terms;
  within : l.joined.0 < length l.terms.nodes;
  whole : right l.op (take l.place (terms_at l.fn.terms l.args) ++ term_at l.terms l.joined ∷ [])
      ≡ right l.op (terms_at l.fn.terms l.args);
}
