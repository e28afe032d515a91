use Rattle.std.proofs.Common.{subst, sym}
use Rattle.pattern_core.proofs.KnownLemmas.{AreEmpty, AreEmpty-more, AreKnown-none}
use Rattle.pattern_core.proofs.known.nothing_known.Goals as goal

pub loop-place-init : goal.loop-place-init
loop-place-init c = subst AreEmpty (sym c.in_ok-known.ensures.items) tt

pub loop-place-preserved : goal.loop-place-preserved
loop-place-preserved c =
    AreEmpty-more c.loop-place.known.items c.push.new.self.items c.loop-place.invariant c.in_ok-push.ensures.items

pub returns : goal.returns
returns c = λ s. AreKnown-none s c.loop-place.known.items c.loop-place.invariant
