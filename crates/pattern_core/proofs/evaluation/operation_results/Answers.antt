use Rattle.std.proofs.Common.{◌≡◌, ◌∙◌, List, ℕ, Some, slice_get, subst}
use Rattle.bv_terms.specs.declared.value.Value.{Value}
use Rattle.isel_spec.specs.declared.definitions.OpDef.{OpDef}
use Rattle.pattern_core.specs.Known.{IsPlaceOf, results_at}
use Rattle.pattern_core.proofs.KnownLemmas.{AreKnown-more}
use Rattle.pattern_core.proofs.evaluation.operation_results.Goals as goal

pub returns-in_err-keep-clause-known : goal.returns-in_err-keep-clause-known
returns-in_err-keep-clause-known c =
    let s = c.args.spec.now in
    let vs : List Value = c.args.env.now.values in
    let here : IsPlaceOf c.args.operation vs c.in-Some.place =
    subst (λ us. IsPlaceOf c.args.operation us c.in-Some.place) c.as_slice.ensures c.in-Some.ensures in
    let right : (name : List ℕ) (d : OpDef) → slice_get s.ops c.args.operation ≡ Some (name, d)
    → c.deref.result.now ≡ results_at s.terms d vs =
    λ name d e. c.deref.ensures.value ∙ c.in_ok-values.ensures name d e in
    AreKnown-more s c.args.known.now c.keep.new.known c.args.operation c.in-Some.place vs c.deref.result.now
    c.requires.known here c.requires.sorted right c.in_err-keep.ensures

pub returns-clause-known : goal.returns-clause-known
returns-clause-known c =
    let s = c.args.spec.now in
    let vs : List Value = c.args.env.now.values in
    let here : IsPlaceOf c.args.operation vs c.in-Some.place =
    subst (λ us. IsPlaceOf c.args.operation us c.in-Some.place) c.as_slice.ensures c.in-Some.ensures in
    let right : (name : List ℕ) (d : OpDef) → slice_get s.ops c.args.operation ≡ Some (name, d)
    → c.deref.result.now ≡ results_at s.terms d vs =
    λ name d e. c.deref.ensures.value ∙ c.in_ok-values.ensures name d e in
    AreKnown-more s c.args.known.now c.keep.new.known c.args.operation c.in-Some.place vs c.deref.result.now
    c.requires.known here c.requires.sorted right c.in_ok-keep.ensures
