use Rattle.std.proofs.Common.{◌≡◌, ◌+◌, Some, slice_get, subst, sym, arith, length, ap, set, ℕ, ◌∙◌}
use Rattle.multiset_rank.specs.Claims.{claims}
use Rattle.claim_core.specs.declared.event.Event.TheVariants.{Draw}
use Rattle.claim_core.specs.declared.event.Held.TheVariants.{Idle}
use Rattle.claim_core.specs.declared.event.Held.{Held}
use Rattle.claim_core.specs.Machine.{drawn}
use Rattle.claim_core.proofs.RunLemmas.{reached-most, reached-next}
use Rattle.claim_core.proofs.machine.Core.draw.Goals as goal

pub overflow_add-self : goal.overflow_add-self
overflow_add-self g c =
    let most = reached-most (length (claims c.self.inside.plan)) _ c.self.invariant.0 in
    let claims = c.claims.ensures.length in
    let bound = c.claims.ensures.most in
    omega (arith, most, claims, bound)

pub invariant_of-self : goal.invariant_of-self
invariant_of-self g c =
    let idle = subst (λ m. slice_get m.state.held c.args.worker ≡ Some Idle) (sym c.self.view_is) c.requires in
    let gives = c.drawn.ensures ∙ ap (λ (n : ℕ). drawn n c.self.inside.next) c.claims.ensures.length in
    let after = ap (λ (h : Held). record {
      next = c.self.inside.next + 1;
      held = set c.self.inside.held.items c.args.worker h;
      book = c.self.inside.book.items;
    }) gives in (
      reached-next (length (claims c.self.inside.plan)) _ (Draw c.args.worker) _ c.self.invariant.0 (idle, after),
      c.self.invariant.1,
    )
