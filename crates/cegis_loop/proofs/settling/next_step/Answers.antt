use Rattle.std.proofs.Common.{◌≡◌, ◌-◌, refl, sym, subst, arith}
use Rattle.claim_outcome.specs.Record.{IsOpen}
use Rattle.pattern_core.specs.Claim.{IsClaim}
use Rattle.pattern_core.specs.Pattern.{IsWellFormed}
use Rattle.pattern_core.specs.Rule.{IsRule, IsPlainRule, TakesNoMemory}
use Rattle.cegis_loop.specs.Finder.{IsFindCall, IsFoundFor}
use Rattle.cegis_loop.specs.Search.{IsSettled}
use Rattle.cegis_loop.specs.declared.finder.Finder.{Finder}
use Rattle.cegis_loop.proofs.SettlingLemmas.{of-claim, right-where_decided, searching-with_finder, sought-open}
use Rattle.cegis_loop.proofs.SettlingLemmas.{under-names}
use Rattle.cegis_loop.proofs.settling.next_step.Goals as goal

pub tried-requires-clause-searching : goal.tried-requires-clause-searching
tried-requires-clause-searching c =
    searching-with_finder c.args.spec.now c.args.goal c.args.multi.now c.args.search c.find.new.finder
    c.requires.searching c.find.ensures.same

pub tried-requires-clause-candidate : goal.tried-requires-clause-candidate
tried-requires-clause-candidate c = λ k is.
    let t = c.args.search in
    let e = t.finder.encoded in
    let n = c.requires.searching.finder in
    let p = c.in-Candidate.pattern in
    let named : IsClaim c.args.spec.now e.goal e.multi k =
    under-names (λ place ops. IsClaim c.args.spec.now place ops k) e.goal c.args.goal e.multi c.args.multi.now
    n.goal_is n.ops_are is in
    subst (λ (m : Finder). IsOpen k m.encoded.examples t.candidates p) (sym c.find.ensures.same)
    (sought-open k e t.candidates t.found p (c.requires.searching.progress k is)
    (subst (IsFoundFor k e _) c.in-Candidate.is (c.in_ok-pattern.ensures.found k named)))

pub spent_on_find-requires-clause-searching : goal.spent_on_find-requires-clause-searching
spent_on_find-requires-clause-searching c =
    searching-with_finder c.args.spec.now c.args.goal c.args.multi.now c.args.search c.find.new.finder
    c.requires.searching c.find.ensures.same

pub spent_on_find-requires-clause-call : goal.spent_on_find-requires-clause-call
spent_on_find-requires-clause-call c = λ k units is whole.
    let e = c.args.search.finder.encoded in
    let n = c.requires.searching.finder in
    let named : IsClaim c.args.spec.now e.goal e.multi k =
    under-names (λ place ops. IsClaim c.args.spec.now place ops k) e.goal c.args.goal e.multi c.args.multi.now
    n.goal_is n.ops_are is in
    let left : c.args.budget - c.len.result ≡ units = omega (arith, whole, c.len.ensures) in
    subst (λ (m : Finder). IsFindCall k m.encoded units c.in-Spent.call) (sym c.find.ensures.same)
    (subst (λ u. IsFindCall k e u c.in-Spent.call) left
    (subst (IsFoundFor k e _) c.in-Spent.is (c.in_ok-pattern.ensures.found k named)))

pub returns-in-Nothing : goal.returns-in-Nothing
returns-in-Nothing c =
    let t = c.args.search in
    let e = t.finder.encoded in
    let n = c.requires.searching.finder in
    subst (IsSettled c.args.spec.now c.args.goal c.args.multi.now c.args.budget) (sym c.decided.ensures)
    (record {
      right = λ k is.
          let named : IsClaim c.args.spec.now e.goal e.multi k =
          under-names (λ place ops. IsClaim c.args.spec.now place ops k) e.goal c.args.goal e.multi c.args.multi.now
          n.goal_is n.ops_are is in
          right-where_decided k c.args.budget e t.candidates t.found (c.requires.searching.progress k is)
          (λ p w rule. of-claim
          (λ f g ops. IsWellFormed f g p → TakesNoMemory g → IsRule f g p → IsPlainRule f g p) c.args.spec.now
          c.args.goal c.args.multi.now k is (λ g h fit none. (c.rules_are_plain.ensures g p h fit none).0) w
          (c.requires.given.plain k is).args rule)
          (subst (IsFoundFor k e _) c.in-Nothing.is (c.in_ok-pattern.ensures.found k named));
      ended = refl;
    })
