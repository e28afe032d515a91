use Rattle.std.proofs.Common.{◌≡◌, ◌∙◌, ◌≤◌, ℕ, List, [], ◌∷◌, ◌++◌, Some, length, slice_get, refl, sym, ap, subst}
use Rattle.std.specs.Prelude.{◌↔◌}
use Rattle.std.proofs.lemmas.List.Elements.{All-weaker}
use Rattle.isel_spec.specs.declared.spec.Spec.{Spec}
use Rattle.isel_spec.specs.File.{File, Goal}
use Rattle.isel_spec.specs.Spec.{file}
use Rattle.pattern_core.specs.declared.pattern.Pattern.{Pattern}
use Rattle.pattern_core.specs.Claim.{Claim, IsClaim, IsPatternOf}
use Rattle.pattern_core.specs.Order.{pattern_cmp, IsTotalOrderOf}
use Rattle.pattern_core.specs.Pattern.{IsWellFormed}
use Rattle.pattern_core.specs.Rule.{IsRule, IsPlainRule, TakesNoMemory}
use Rattle.claim_outcome.specs.Outcome.{IsRuleOf}
use Rattle.loc_encode.proofs.ClaimLemmas.{has_claim}
use Rattle.cegis_loop.specs.Listing.{IsListedBesides}
use Rattle.cegis_loop.proofs.ProgressLemmas.{progress-confirmed, progress-same}
use Rattle.cegis_loop.proofs.search.confirmed.Goals as goal

-- what is said of a goal of the file, said of its claim
of-claim : (s : Spec) (place : ℕ) (ops : List ℕ) (k : Claim) → IsClaim s place ops k → (P : File → Goal → Type 0)
    → ((g : Goal) → slice_get (file s).goals place ≡ Some g → P (file s) g) → P k.file k.goal
of-claim s place ops k is P h = subst (λ (f : File). P f k.goal) (sym is.of_file) (h k.goal is.of_goal)

pub with_renaming-requires-clause-pattern : goal.with_renaming-requires-clause-pattern
with_renaming-requires-clause-pattern c = λ g h.
    let s = c.args.spec.now in
    let e = c.args.search.finder.encoded in
    let k : Claim = record { file = file s; goal = g; ops = e.multi } in
    let is : IsClaim s e.goal e.multi k = record { of_file = refl; of_goal = h; of_ops = refl } in
    subst (IsWellFormed (file s) g) (sym c.in_ok-copy.ensures) (c.requires.candidate k is).pattern.well_formed

pub with_renaming-requires-clause-small : goal.with_renaming-requires-clause-small
with_renaming-requires-clause-small c =
    let e = c.args.search.finder.encoded in
    let k = has_claim c.args.spec.now e.goal e.multi c.requires.given.place in
    All-weaker (IsRuleOf k.0) (λ (p : Pattern). length p.nodes ≤ 6) (λ p h. h.pattern.well_formed.size)
    c.args.search.found (c.requires.searching.progress k.0 k.1).rules

pub without_pattern-requires-clause-pattern : goal.without_pattern-requires-clause-pattern
without_pattern-requires-clause-pattern c = λ k is.
    subst (IsPatternOf k) (sym c.in_ok-copy.ensures) (c.requires.candidate k is).pattern

pub returns-clause-searching : goal.returns-clause-searching
returns-clause-searching c =
    let s = c.args.spec.now in
    let old = c.args.search in
    let e = old.finder.encoded in
    let new = c.in_ok-finder.finder.encoded in
    let p = c.args.pattern in
    let more = c.in_ok-found.found in
    record {
      finder = c.in_ok-finder.ensures.right;
      tests = c.requires.searching.tests;
      progress = λ k is.
          let fresh = c.requires.candidate k is in
          let same : (q : Pattern) → IsWellFormed k.file k.goal q → TakesNoMemory k.goal
          → IsRule k.file k.goal q ↔ IsPlainRule k.file k.goal q =
          λ q. of-claim s e.goal e.multi k is
          (λ f g. IsWellFormed f g q → TakesNoMemory g → IsRule f g q ↔ IsPlainRule f g q)
          (λ g h. c.rules_are_plain.ensures g q h) in
          let plain : TakesNoMemory k.goal = (c.requires.given.plain k is).args in
          let listed : IsListedBesides k.file k.goal p old.found more =
          of-claim s e.goal e.multi k is (λ f g. IsListedBesides f g p old.found more)
          (λ g h. subst (λ (q : Pattern). IsListedBesides (file s) g q old.found more) c.in_ok-copy.ensures
          (c.in_ok-found.ensures g h)) in
          let total : IsTotalOrderOf (IsWellFormed k.file k.goal) pattern_cmp =
          of-claim s e.goal e.multi k is (λ f g. IsTotalOrderOf (IsWellFormed f g) pattern_cmp)
          c.order_is_total.ensures in
          progress-same k e.examples new.examples (e.blocked ++ p ∷ []) new.blocked (old.candidates ++ p ∷ [])
          c.push.new.self more more c.in_ok-finder.ensures.examples
          (c.in_ok-finder.ensures.blocked ∙ ap (λ (q : Pattern). e.blocked ++ q ∷ []) c.in_ok-copy.ensures)
          c.in_ok-push.ensures.ok refl
          (progress-confirmed k e.examples e.blocked old.candidates old.found more p
          (c.requires.searching.progress k is) fresh
          ((same p fresh.pattern.well_formed plain).0 (c.requires.rule k is)) listed total
          (λ q w. (same q w plain).1));
    }
