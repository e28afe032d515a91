use Rattle.std.proofs.Common.{◌≡◌, ◌≤◌, ◌<◌, ℕ}
use Rattle.isel_spec.specs.Spec.{file}
use Rattle.plain_search.specs.Extent.{attribute_bits_of}
use Rattle.plain_search.proofs.extent.most_attribute_bits.Given as goal

abbrev pub invariant-loop-op : goal.invariant-loop-op
invariant-loop-op l = record {
  above : (k : ℕ) → k < l.op → attribute_bits_of (file l.spec) k ≤ l.most;
  reached : (k : ℕ) × (attribute_bits_of (file l.spec) k ≡ l.most);
  small : l.most ≤ 510;
}
