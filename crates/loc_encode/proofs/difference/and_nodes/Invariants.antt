use Rattle.std.proofs.Common.{◌≡◌, ◌<◌, ℕ, Some, length, slice_get}
use Rattle.bv_terms.specs.Table.{Extends}
use Rattle.isel_spec.specs.Spec.{file}
use Rattle.pattern_core.specs.Claim.{Claim}
use Rattle.pattern_core.specs.declared.pattern.Node.{Node}
use Rattle.loc_encode.specs.Matching.{MatchesNodes, AreNodeSlots}
use Rattle.loc_encode.specs.Condition.{IsBoth}
use Rattle.loc_encode.proofs.difference.and_nodes.Given as goal

abbrev pub invariant-loop-line : goal.invariant-loop-line
invariant-loop-line l =
    Extends l.initial.terms l.terms × (l.all.0 < length l.terms.nodes)
    × ((c : Claim) → c.file ≡ file l.spec
    → ((k : ℕ) (n : Node) → slice_get l.nodes k ≡ Some n → AreNodeSlots c k n)
    → IsBoth c l.initial.terms l.fn.earlier l.terms l.all (MatchesNodes (file l.spec) l.nodes l.line))
