use Rattle.std.proofs.Common.{◌≡◌, ◌∙◌, ◌<◌, List, length, map, Some, slice_get, ap, sym, subst}
use Rattle.bv_terms.specs.declared.op.TermId.{TermId}
use Rattle.bv_terms.specs.declared.value.Sort.{Sort}
use Rattle.bv_terms.specs.Table.{term_at, Extends}
use Rattle.bv_terms.specs.WellSorted.{sort_of}
use Rattle.bv_terms.proofs.GraftLemmas.{Extends-further}
use Rattle.isel_spec.specs.File.{Goal}
use Rattle.isel_spec.specs.Spec.{file}
use Rattle.pattern_core.specs.Symbolic.{AreIn, AreTermsOver}
use Rattle.pattern_core.specs.Rule.{pattern_results, goal_results}
use Rattle.pattern_core.proofs.SymbolicTables.{AreIn-longer}
use Rattle.cegis_loop.specs.Miter.{inputs_from, never, or_differ, and_inputs, IsMiterOf}
use Rattle.cegis_loop.proofs.MiterLemmas.{input-sorts, later-sorts, IsMiterOf-built, IfOk-and}
use Rattle.cegis_loop.proofs.miter.miter.Goals as goal

pub as_terms-requires-clause-sorts : goal.as_terms-requires-clause-sorts
as_terms-requires-clause-sorts c = λ g h.
    let table = c.input_nodes.new.terms in
    let nodes = c.in_ok-inputs.inputs.items in
    subst
    (λ (ns : List TermId). map (sort_of table.pointer) (map (term_at table) ns) ≡ map (λ (s : Sort). Some s) g.args)
    (sym c.deref.ensures.value)
    (input-sorts table c.in_ok-inputs.ensures.table nodes c.in_ok-inputs.ensures.within g.args
    (c.in_ok-inputs.ensures.terms ∙ ap (inputs_from 0) (c.requires.sorts g h)))

pub goal_terms-requires-clause-sorts : goal.goal_terms-requires-clause-sorts
goal_terms-requires-clause-sorts c = λ g h.
    let table = c.input_nodes.new.terms in
    let new = c.as_terms.new.terms in
    let nodes = c.in_ok-inputs.inputs.items in
    subst (λ (ns : List TermId). map (sort_of new.pointer) (map (term_at new) ns) ≡ map (λ (s : Sort). Some s) g.args)
    (sym c.deref-2.ensures.value)
    (later-sorts table new c.in_ok-inputs.ensures.table c.in_ok-found.ensures.extends nodes
    c.in_ok-inputs.ensures.within g.args (c.in_ok-inputs.ensures.terms ∙ ap (inputs_from 0) (c.requires.sorts g h)))

pub over_inputs-requires-clause-inputs : goal.over_inputs-requires-clause-inputs
over_inputs-requires-clause-inputs c =
    let one = c.input_nodes.new.terms in
    let two = c.as_terms.new.terms in
    let three = c.goal_terms.new.terms in
    let four = c.differ.new.terms in
    let grows : Extends one four = Extends-further one three four
    (Extends-further one two three c.in_ok-found.ensures.extends c.in_ok-wanted.ensures.extends)
    c.in_ok-formula.ensures.extends in
    subst (AreIn four) (sym c.deref-5.ensures.value)
    (AreIn-longer one four grows c.in_ok-inputs.inputs.items c.in_ok-inputs.ensures.within)

pub returns-clause-miter : goal.returns-clause-miter
returns-clause-miter c =
    let s = c.args.spec.now in
    let one = c.input_nodes.new.terms in
    let two = c.as_terms.new.terms in
    let three = c.goal_terms.new.terms in
    let four = c.differ.new.terms in
    let five = c.over_inputs.new.terms in
    let inputs = c.in_ok-inputs.inputs.items in
    let found = c.in_ok-found.found.items in
    let wanted = c.in_ok-wanted.wanted.items in
    let formula = c.in_ok-formula.formula in
    let start : one.pointer ≡ s.pointer = c.in_ok-inputs.ensures.extends.pointer ∙ c.requires.pointer in
    let end : five.pointer ≡ s.pointer =
    c.over_inputs.ensures.extends.pointer ∙ c.in_ok-formula.ensures.extends.pointer
    ∙ c.in_ok-wanted.ensures.extends.pointer ∙ c.in_ok-found.ensures.extends.pointer ∙ start in
    let differ : term_at four formula ≡ or_differ never (map (term_at three) found) (map (term_at three) wanted) =
    c.in_ok-formula.ensures.term
    ∙ (λ i. or_differ never (map (term_at three) (c.deref-3.ensures.value i))
    (map (term_at three) (c.deref-4.ensures.value i))) in
    IfOk-and c.over_inputs.result (λ id. id.0 < length five.nodes)
    (λ id. term_at five id ≡ and_inputs (term_at four formula) (map (term_at four) c.deref-5.result.now))
    (λ id. (g : Goal) → slice_get (file s).goals c.args.goal ≡ Some g
    → IsMiterOf (file s) g c.args.pattern.now (term_at five id))
    (λ id within term. λ g h. IsMiterOf-built (file s) g c.args.pattern.now one two three four five inputs found wanted
    formula id (record {
      pointer = start;
      second = c.in_ok-found.ensures.extends;
      third = c.in_ok-wanted.ensures.extends;
      fourth = c.in_ok-formula.ensures.extends;
      inputs_in = c.in_ok-inputs.ensures.within;
      found_in = c.in_ok-found.ensures.within;
      inputs_are = c.in_ok-inputs.ensures.terms ∙ ap (inputs_from 0) (c.requires.sorts g h);
      left = subst (λ (ns : List TermId). AreTermsOver one.pointer (map (term_at one) ns)
          (map (sort_of one.pointer) g.results) (pattern_results (file s) c.args.pattern.now) (map (term_at two) found))
          c.deref.ensures.value (c.in_ok-found.ensures.meaning g h);
      right = subst (λ (ns : List TermId). AreTermsOver two.pointer (map (term_at two) ns)
          (map (sort_of two.pointer) g.results) (goal_results g) (map (term_at three) wanted))
          c.deref-2.ensures.value (c.in_ok-wanted.ensures.meaning g h);
      differ = differ;
      whole = term
          ∙ ap (λ (ns : List TermId). and_inputs (term_at four formula) (map (term_at four) ns))
          c.deref-5.ensures.value;
    }) (c.requires.plain g h) c.over_inputs.ensures.table end within) c.over_inputs.ensures.within
    c.over_inputs.ensures.term
