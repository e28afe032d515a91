use Rattle.std.proofs.Common.{◌≡◌, ◌≤◌, List, Some, slice_get, subst, sym, arith, length, set}
use Rattle.multiset_rank.specs.Claims.{claims}
use Rattle.std.proofs.lemmas.Option.{slice_get_within}
use Rattle.claim_core.specs.declared.event.Event.TheVariants.{Publish}
use Rattle.claim_core.specs.declared.event.Held.{Held}
use Rattle.claim_core.specs.declared.event.Held.TheVariants.{Idle, Claim}
use Rattle.claim_core.specs.Machine.{State, Leads}
use Rattle.claim_core.proofs.RunLemmas.{reached-room, reached-next}
use Rattle.claim_core.proofs.machine.Core.publish.Goals as goal

pub push_reserved-requires : goal.push_reserved-requires
push_reserved-requires g c =
    let holder = subst (λ (held : List Held). slice_get held c.args.worker ≡ Some (Claim c.claim_of-number.result))
    c.as_slice.ensures.value c.claim_of-number.ensures in
    let room = reached-room (length (claims c.self.inside.plan)) _ c.args.worker c.claim_of-number.result
    c.self.invariant.0 holder in
    let wide = c.self.invariant.1 in
    let size = c.self.inside.book.ok.0 in
    omega (arith, room, wide, size)

pub index_mut-requires : goal.index_mut-requires
index_mut-requires g c =
    let holder = subst (λ (held : List Held). slice_get held c.args.worker ≡ Some (Claim c.claim_of-number.result))
    c.as_slice.ensures.value c.claim_of-number.ensures in
    let there = slice_get_within c.self.inside.held.items c.args.worker (Claim c.claim_of-number.result) holder in
    let size = c.self.inside.held.ok.0 in
    omega (arith, there, size)

pub invariant_of-self : goal.invariant_of-self
invariant_of-self g c =
    let holder = subst (λ (held : List Held). slice_get held c.args.worker ≡ Some (Claim c.claim_of-number.result))
    c.as_slice.ensures.value c.claim_of-number.ensures in (
      reached-next (length (claims c.self.inside.plan)) _ (Publish c.args.worker c.args.entry) _ c.self.invariant.0 (
        c.claim_of-number.result,
        holder,
        λ i. record {
          next = c.self.inside.next;
          held = set c.self.inside.held.items c.args.worker Idle;
          book = c.push_reserved.ensures.items i;
        },
      ),
      subst (λ n. length (claims c.self.inside.plan) ≤ n) (sym c.push_reserved.ensures.capacity) c.self.invariant.1,
    )

pub returns-clause-state : goal.returns-clause-state
returns-clause-state g c =
    let holder = subst (λ (held : List Held). slice_get held c.args.worker ≡ Some (Claim c.claim_of-number.result))
    c.as_slice.ensures.value c.claim_of-number.ensures in
    let after : State _ = record {
      next = c.self.inside.next;
      held = set c.self.inside.held.items c.args.worker Idle;
      book = c.push_reserved.new.self.items;
    } in
    subst (λ m. Leads (length (claims c.self.inside.plan)) m.state (Publish c.args.worker c.args.entry) after)
    c.self.view_is (
      c.claim_of-number.result,
      holder,
      λ i. record {
        next = c.self.inside.next;
        held = set c.self.inside.held.items c.args.worker Idle;
        book = c.push_reserved.ensures.items i;
      },
    )
