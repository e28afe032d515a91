use Rattle.std.proofs.Common.{◌≡◌, take, length}
use Rattle.cdcl_base.specs.Analysis.{IsMarked, AreListed}
use Rattle.cdcl_base.proofs.analysis.mark.Given as goal

abbrev pub invariant-loop-lit : goal.invariant-loop-lit
invariant-loop-lit l = record {
  marks : IsMarked l.fn.marks (take l.lit-index l.lits) l.marks;
  listed : AreListed l.fn.marks l.fn.marked.items → AreListed l.marks l.marked.items;
  same : take (length l.fn.marked.items) l.marked.items ≡ l.fn.marked.items;
}
