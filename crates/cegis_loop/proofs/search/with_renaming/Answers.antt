use Rattle.std.proofs.Common.{◌≡◌, [], Some, slice_get, sym, subst}
use Rattle.std.proofs.lemmas.Result.{IfOk-weaker}
use Rattle.isel_spec.specs.File.{Goal}
use Rattle.isel_spec.specs.Spec.{file}
use Rattle.pattern_core.specs.Pattern.{IsWellFormed}
use Rattle.pattern_core.specs.Walk.{IsForward}
use Rattle.loc_encode.proofs.ClaimLemmas.{has_claim}
use Rattle.cegis_loop.specs.Listing.{put_pattern, IsListedBesides}
use Rattle.cegis_loop.proofs.RenamedLemmas.{listed-besides}
use Rattle.cegis_loop.proofs.search.with_renaming.Goals as goal

pub canonical-requires-clause-well_formed : goal.canonical-requires-clause-well_formed
canonical-requires-clause-well_formed c =
    let k = has_claim c.args.spec.now c.args.goal [] c.requires.there in (
      file c.args.spec.now,
      k.0.goal,
      subst (IsWellFormed (file c.args.spec.now) k.0.goal) (sym c.in_ok-copy.ensures)
          (c.requires.pattern k.0.goal k.1.of_goal),
    )

pub canonical-requires-clause-forward : goal.canonical-requires-clause-forward
canonical-requires-clause-forward c =
    let k = has_claim c.args.spec.now c.args.goal [] c.requires.there in
    subst IsForward (sym c.in_ok-copy.ensures)
    (c.well_formed_is_forward.ensures k.0.goal c.args.pattern.now k.1.of_goal (c.requires.pattern k.0.goal k.1.of_goal))

pub with_pattern-requires-clause-few : goal.with_pattern-requires-clause-few
with_pattern-requires-clause-few c =
    let k = has_claim c.args.spec.now c.args.goal [] c.requires.there in
    let f = file c.args.spec.now in
    (c.in_ok-renaming.ensures.well_formed f k.0.goal
    (subst (IsWellFormed f k.0.goal) (sym c.in_ok-copy.ensures) (c.requires.pattern k.0.goal k.1.of_goal))).size

pub returns : goal.returns
returns c =
    let f = file c.args.spec.now in
    let p = c.args.pattern.now in
    let copy = c.in_ok-copy.copy in
    let q = c.in_ok-renaming.renaming in
    let made = c.in_ok-renaming.ensures in
    IfOk-weaker c.with_pattern.result (λ more. more ≡ put_pattern q c.args.listed)
    (λ more. (g : Goal) → slice_get f.goals c.args.goal ≡ Some g → IsListedBesides f g p c.args.listed more)
    (λ more put. λ g h.
    let fit : IsWellFormed f g p = c.requires.pattern g h in
    listed-besides f g p copy q c.args.listed more c.in_ok-copy.ensures fit
    (c.well_formed_is_forward.ensures g p h fit) made.renaming made.canonical
    (made.well_formed f g (subst (IsWellFormed f g) (sym c.in_ok-copy.ensures) fit)) made.only put)
    c.with_pattern.ensures
