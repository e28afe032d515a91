use Rattle.std.proofs.Common.{sym, subst, List, ℕ}
use Rattle.std.proofs.lemmas.Result.{IfOk-weaker}
use Rattle.bv_terms.specs.declared.value.Value.{Value}
use Rattle.pattern_core.specs.Claim.{IsClaim}
use Rattle.loc_encode.specs.Encoded.{IsSought}
use Rattle.loc_encode.specs.Standing.{StandsFor}
use Rattle.loc_encode.proofs.decoding.decode.Goals as goal

pub returns-clause-sought : goal.returns-clause-sought
returns-clause-sought c = λ claim is.
    let right = c.requires.right claim is in
    let found = right.sound c.args.env.now.values c.requires.fits c.requires.holds in
    let p = found.0 in
    let sought : IsSought claim c.args.encoded.now p = found.1 in
    let given : IsClaim c.args.spec.now c.args.encoded.now.goal c.ops-ops.result.now claim =
    subst (λ (ops : List ℕ). IsClaim c.args.spec.now c.args.encoded.now.goal ops claim)
    (sym c.ops-ops.ensures.numbers) is
    in
    let stands : StandsFor claim c.as_slice.result.now p =
    subst (λ (env : List Value). StandsFor claim env p) (sym c.as_slice.ensures) found.2 in
    IfOk-weaker c.pattern_of.result _ _ (λ r same. subst (IsSought claim c.args.encoded.now) (sym same) sought)
    (c.pattern_of.ensures claim p given sought.pattern stands)

pub returns-clause-stands : goal.returns-clause-stands
returns-clause-stands c = λ claim is.
    let right = c.requires.right claim is in
    let found = right.sound c.args.env.now.values c.requires.fits c.requires.holds in
    let p = found.0 in
    let sought : IsSought claim c.args.encoded.now p = found.1 in
    let given : IsClaim c.args.spec.now c.args.encoded.now.goal c.ops-ops.result.now claim =
    subst (λ (ops : List ℕ). IsClaim c.args.spec.now c.args.encoded.now.goal ops claim)
    (sym c.ops-ops.ensures.numbers) is
    in
    let stands : StandsFor claim c.as_slice.result.now p =
    subst (λ (env : List Value). StandsFor claim env p) (sym c.as_slice.ensures) found.2 in
    IfOk-weaker c.pattern_of.result _ _ (λ r same. subst (StandsFor claim c.args.env.now.values) (sym same) found.2)
    (c.pattern_of.ensures claim p given sought.pattern stands)
