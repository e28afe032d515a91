use Rattle.std.proofs.lemmas.Result.{on_ok_weaker}
use Rattle.isel_spec.specs.Spec.{file}
use Rattle.pattern_core.proofs.TotalLemmas.{IsLimited-from_spec}
use Rattle.plain_search.proofs.SiftLemmas.{goal-exists, forward-from_well_formed, sifted-handed}
use Rattle.plain_search.proofs.sifting.sift.Goals as goal

pub is_canonical-requires-clause-few : goal.is_canonical-requires-clause-few
is_canonical-requires-clause-few g c =
    let at = goal-exists c.args.spec.now c.args.goal c.requires.there in
    let is = (c.is_well_formed.ensures at.0 at.1).0 c.if-not-is_well_formed.false in
    is.size

pub is_canonical-requires-clause-forward : goal.is_canonical-requires-clause-forward
is_canonical-requires-clause-forward g c =
    let at = goal-exists c.args.spec.now c.args.goal c.requires.there in
    forward-from_well_formed (file c.args.spec.now) at.0 c.args.pattern.now
    (IsLimited-from_spec c.args.spec.now c.args.goal at.0 c.requires.table at.1)
    ((c.is_well_formed.ensures at.0 at.1).0 c.if-not-is_well_formed.false)

pub take-requires-clause-well_formed : goal.take-requires-clause-well_formed
take-requires-clause-well_formed g c =
    λ x there. (c.is_well_formed.ensures x there).0 c.if-not-is_well_formed.false

pub returns-clause-sifts : goal.returns-clause-sifts
returns-clause-sifts g c =
    on_ok_weaker c.take.result (λ t x there.
    sifted-handed g.S.Sieve.takes (file c.args.spec.now) x c.args.sieve.now c.take.new.self c.args.pattern.now (
      (c.is_well_formed.ensures x there).0 c.if-not-is_well_formed.false,
      c.is_canonical.ensures.0 c.if-not-is_canonical.false,
    )
    t) c.take.ensures.taken
