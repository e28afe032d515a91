use Rattle.std.proofs.Common.{◌∙◌, sym, subst}
use Rattle.isel_spec.specs.File.{File}
use Rattle.isel_spec.specs.Spec.{file}
use Rattle.cegis_loop.proofs.TrialLemmas.{IsCompared, case_is, first-differs, agrees-more, agrees-everywhere}
use Rattle.cegis_loop.proofs.trial.first_other.Goals as goal

pub returns-then-not-branch-clause-first : goal.returns-then-not-branch-clause-first
returns-then-not-branch-clause-first c = λ k ops xs is e.
    let p = c.args.pattern.now in
    let i = c.loop-place.place in
    let t = c.index-cases-place.result in
    let b = c.in_ok-has_results.field-0 in
    let at = case_is k.goal xs c.args.cases.now i t e c.loop-place-test.true c.index-cases-place.is in
    let compared : IsCompared (file c.args.spec.now) p t b = record {
      inputs = c.as_slice-inputs.result.now;
      wanted = c.as_slice-wanted.result.now;
      inputs_are = c.as_slice-inputs.ensures;
      wanted_are = c.as_slice-wanted.ensures;
      same = c.in_ok-has_results.ensures.has;
    } in
    first-differs k p xs i t b c.from_vec.result at
    (subst (λ (f : File). IsCompared f p t b) (sym is.of_file) compared) c.if-not-branch.true
    (c.from_vec.ensures ∙ c.in_ok-copied.ensures.items ∙ c.as_slice-inputs.ensures)
    (c.loop-place.invariant.so_far k ops xs is e)

pub loop-place-preserved : goal.loop-place-preserved
loop-place-preserved c = record {
  evaluation = c.has_results.ensures.evaluation;
  so_far = λ k ops xs is e.
      let p = c.args.pattern.now in
      let i = c.loop-place.place in
      let t = c.index-cases-place.result in
      let b = c.in_ok-has_results.field-0 in
      let at = case_is k.goal xs c.args.cases.now i t e c.loop-place-test.true c.index-cases-place.is in
      let compared : IsCompared (file c.args.spec.now) p t b = record {
        inputs = c.as_slice-inputs.result.now;
        wanted = c.as_slice-wanted.result.now;
        inputs_are = c.as_slice-inputs.ensures;
        wanted_are = c.as_slice-wanted.ensures;
        same = c.in_ok-has_results.ensures.has;
      } in
      agrees-more k p xs i t b at (subst (λ (f : File). IsCompared f p t b) (sym is.of_file) compared)
      c.if-not-branch.false (c.loop-place.invariant.so_far k ops xs is e);
}

pub returns-clause-first : goal.returns-clause-first
returns-clause-first c = λ k ops xs is e.
    agrees-everywhere k c.args.pattern.now xs c.args.cases.now c.loop-place.place e c.loop-place-test.false
    (c.loop-place.invariant.so_far k ops xs is e)
