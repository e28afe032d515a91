use Rattle.std.proofs.Common.{◌≡◌, ◌≤◌, ◌<◌, ◌-◌, ◌^◌, ◌+◌, ℕ, List, IfSome, IsTrue, length}
use Rattle.isel_base.specs.Outside.{IsFront, ReadsOnly}
use Rattle.isel_base.proofs.reading.read_all.Given as goal

abbrev pub invariant-loop-files : goal.invariant-loop-files
invariant-loop-files g l = record {
  asked : 0 < length l.chunk.items;
  told : IfSome (g.F.Files.bytes l.fn.files l.name) (λ all. IsFront all l.got.items);
  counts : (other : List ℕ) → g.F.Files.faults l.fn.files other ≤ g.F.Files.faults l.files other;
  same : (other : List ℕ) → g.F.Files.bytes l.files other ≡ g.F.Files.bytes l.fn.files other;
  only : ReadsOnly g.F.Files.read_leaves l.name l.fn.files l.files;
  stays : (other : List ℕ) → IsTrue (g.F.Files.never_fails l.fn.files other)
      → IsTrue (g.F.Files.never_fails l.files other);
}

abbrev pub decreases-loop-files : goal.decreases-loop-files
decreases-loop-files g l = (2 ^ 20 + 1) - length l.got.items
