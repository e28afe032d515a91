use Rattle.std.proofs.Common.{◌≡◌, ◌∙◌, [], map, All, sym, ap, subst, Some}
use Rattle.std.specs.Prelude.{IsSome}
use Rattle.std.proofs.lemmas.Result.{IfOk-weaker}
use Rattle.bv_terms.specs.declared.op.TermId.{TermId}
use Rattle.bv_terms.specs.Table.{term_at}
use Rattle.isel_spec.specs.Spec.{file}
use Rattle.pattern_core.specs.declared.pattern.Src.{Src}
use Rattle.pattern_core.specs.Pattern.{AreFitting}
use Rattle.pattern_core.specs.Symbolic.{found, term_outs}
use Rattle.pattern_core.proofs.SymbolicTables.{HasMade, made-sources, made-within, made-terms, made-meaning}
use Rattle.pattern_core.proofs.symbolic.as_terms.Goals as goal

pub all_terms-requires-clause-fits : goal.all_terms-requires-clause-fits
all_terms-requires-clause-fits c = λ g h. (let wf = c.requires.well_formed g h in
    subst (AreFitting (file c.args.spec.now) g) (sym c.as_slice.ensures) wf.nodes)

pub found_all-requires : goal.found_all-requires
found_all-requires c =
    let spec = c.args.spec.now in
    let old = c.args.terms.now in
    let table = c.all_terms.new.terms in
    let inputs = c.args.inputs.now in
    let p = c.args.pattern.now in
    let outs = c.in_ok-outs.outs.items in
    let made : HasMade spec c.args.goal p old table inputs outs = record {
      can = record {
        is_table = c.len.ensures.table;
        is_other = c.len-2.ensures.table;
        there = c.requires.there;
        fitting = λ g h. (let wf = c.requires.well_formed g h in wf.nodes);
        pointer = c.requires.pointer;
        within = c.requires.within;
        sorts = c.requires.sorts;
      };
      well_formed = c.requires.well_formed;
      extends = c.in_ok-outs.ensures.extends;
      within = c.in_ok-outs.ensures.within;
      rows = c.in_ok-outs.ensures.outs
          ∙ ap (term_outs (file spec) (map (term_at old) inputs) []) c.as_slice.ensures;
    } in
    subst (λ os. All (λ (x : Src). IsSome (found inputs os x)) c.as_slice-3.result.now) (sym c.as_slice-2.ensures.value)
    (subst (All (λ (x : Src). IsSome (found inputs outs x))) (sym c.as_slice-3.ensures)
    (made-sources spec c.args.goal p old table inputs outs made))

pub returns-clause-within : goal.returns-clause-within
returns-clause-within c =
    let spec = c.args.spec.now in
    let old = c.args.terms.now in
    let table = c.all_terms.new.terms in
    let inputs = c.args.inputs.now in
    let p = c.args.pattern.now in
    let outs = c.in_ok-outs.outs.items in
    let made : HasMade spec c.args.goal p old table inputs outs = record {
      can = record {
        is_table = c.len.ensures.table;
        is_other = c.len-2.ensures.table;
        there = c.requires.there;
        fitting = λ g h. (let wf = c.requires.well_formed g h in wf.nodes);
        pointer = c.requires.pointer;
        within = c.requires.within;
        sorts = c.requires.sorts;
      };
      well_formed = c.requires.well_formed;
      extends = c.in_ok-outs.ensures.extends;
      within = c.in_ok-outs.ensures.within;
      rows = c.in_ok-outs.ensures.outs
          ∙ ap (term_outs (file spec) (map (term_at old) inputs) []) c.as_slice.ensures;
    } in
    IfOk-weaker c.found_all.result
    (λ v. map (λ (a : TermId). Some a) v.items
    ≡ map (found inputs c.as_slice-2.result.now) c.as_slice-3.result.now) _
    (λ v e. made-within spec c.args.goal p old table inputs outs v.items made
    (e ∙ (λ i. map (found inputs (c.as_slice-2.ensures.value i)) (c.as_slice-3.ensures i))))
    c.found_all.ensures

pub returns-clause-terms : goal.returns-clause-terms
returns-clause-terms c =
    let spec = c.args.spec.now in
    let old = c.args.terms.now in
    let table = c.all_terms.new.terms in
    let inputs = c.args.inputs.now in
    let p = c.args.pattern.now in
    let outs = c.in_ok-outs.outs.items in
    let made : HasMade spec c.args.goal p old table inputs outs = record {
      can = record {
        is_table = c.len.ensures.table;
        is_other = c.len-2.ensures.table;
        there = c.requires.there;
        fitting = λ g h. (let wf = c.requires.well_formed g h in wf.nodes);
        pointer = c.requires.pointer;
        within = c.requires.within;
        sorts = c.requires.sorts;
      };
      well_formed = c.requires.well_formed;
      extends = c.in_ok-outs.ensures.extends;
      within = c.in_ok-outs.ensures.within;
      rows = c.in_ok-outs.ensures.outs
          ∙ ap (term_outs (file spec) (map (term_at old) inputs) []) c.as_slice.ensures;
    } in
    IfOk-weaker c.found_all.result
    (λ v. map (λ (a : TermId). Some a) v.items
    ≡ map (found inputs c.as_slice-2.result.now) c.as_slice-3.result.now) _
    (λ v e. made-terms spec c.args.goal p old table inputs outs v.items made
    (e ∙ (λ i. map (found inputs (c.as_slice-2.ensures.value i)) (c.as_slice-3.ensures i))))
    c.found_all.ensures

pub returns-clause-meaning : goal.returns-clause-meaning
returns-clause-meaning c =
    let spec = c.args.spec.now in
    let old = c.args.terms.now in
    let table = c.all_terms.new.terms in
    let inputs = c.args.inputs.now in
    let p = c.args.pattern.now in
    let outs = c.in_ok-outs.outs.items in
    let made : HasMade spec c.args.goal p old table inputs outs = record {
      can = record {
        is_table = c.len.ensures.table;
        is_other = c.len-2.ensures.table;
        there = c.requires.there;
        fitting = λ g h. (let wf = c.requires.well_formed g h in wf.nodes);
        pointer = c.requires.pointer;
        within = c.requires.within;
        sorts = c.requires.sorts;
      };
      well_formed = c.requires.well_formed;
      extends = c.in_ok-outs.ensures.extends;
      within = c.in_ok-outs.ensures.within;
      rows = c.in_ok-outs.ensures.outs
          ∙ ap (term_outs (file spec) (map (term_at old) inputs) []) c.as_slice.ensures;
    } in
    IfOk-weaker c.found_all.result
    (λ v. map (λ (a : TermId). Some a) v.items
    ≡ map (found inputs c.as_slice-2.result.now) c.as_slice-3.result.now) _
    (λ v e g there. made-meaning spec c.args.goal p old table inputs outs v.items g made
    (e ∙ (λ i. map (found inputs (c.as_slice-2.ensures.value i)) (c.as_slice-3.ensures i))) there)
    c.found_all.ensures
