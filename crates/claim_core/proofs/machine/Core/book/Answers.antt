use Rattle.std.proofs.Common.{subst, sym}
use Rattle.multiset_rank.specs.Claims.{claims}
use Rattle.std.specs.Prelude.{length}
use Rattle.claim_core.specs.Machine.{IsReached}
use Rattle.claim_core.specs.Laws.{AllOver, AreOnceBelow, numbers}
use Rattle.claim_core.proofs.RunLemmas.{reached-dealt, reached-ended}
use Rattle.claim_core.proofs.machine.Core.book.Goals as goal

pub returns-clause-dealt : goal.returns-clause-dealt
returns-clause-dealt g c = reached-dealt (length (claims c.args.self.now.plan)) c.args.self.now.state
    (subst (λ m. IsReached (length (claims m.plan)) m.state) c.self.view_is c.self.invariant.0)

pub returns-clause-all : goal.returns-clause-all
returns-clause-all g c = λ over. subst (λ xs. AreOnceBelow (length (claims c.args.self.now.plan)) (numbers xs))
    (sym c.as_slice.ensures.value)
    (subst (λ m. AllOver m.state.held → AreOnceBelow (length (claims m.plan)) (numbers c.self.inside.book.items))
    c.self.view_is
    (λ all. reached-ended (length (claims c.self.inside.plan)) _ c.self.invariant.0 all) over)
