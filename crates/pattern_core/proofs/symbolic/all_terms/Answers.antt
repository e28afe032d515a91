use Rattle.std.proofs.Common.{◌≡◌, ◌∙◌, map, Some, sym, ap, subst, slice_get}
use Rattle.std.proofs.lemmas.Option.{slice_get-get_or}
use Rattle.bv_terms.specs.Table.{term_at}
use Rattle.isel_spec.specs.Spec.{file}
use Rattle.pattern_core.specs.declared.pattern.Node.{Node}
use Rattle.pattern_core.specs.Symbolic.{source_term, op_terms, AreIn, IsNodeReady}
use Rattle.pattern_core.proofs.SymbolicTables.{CanMake, AreMade-none, AreMade-ready, AreMade-more}
use Rattle.pattern_core.proofs.symbolic.all_terms.Goals as goal

pub loop-place-init : goal.loop-place-init
loop-place-init c =
    let can : CanMake c.args.spec.now c.args.goal c.args.nodes.now c.args.terms.now c.args.inputs.now = record {
      is_table = c.len.ensures.table;
      is_other = c.len-2.ensures.table;
      there = c.requires.there;
      fitting = c.requires.fits;
      pointer = c.requires.pointer;
      within = c.requires.within;
      sorts = c.requires.sorts;
    } in
    AreMade-none c.args.spec.now c.args.goal c.args.nodes.now c.args.terms.now c.args.inputs.now
    c.new-outs.result.items can c.new-outs.ensures.items

pub node_terms-requires : goal.node_terms-requires
node_terms-requires c =
    let spec = c.args.spec.now in
    let nodes = c.args.nodes.now in
    let old = c.args.terms.now in
    let inputs = c.args.inputs.now in
    let node = c.index-nodes-place.result in
    let place = c.loop-place.place in
    let at : slice_get nodes place ≡ Some node =
    slice_get-get_or nodes place node c.loop-place-test.true
    ∙ ap (λ (n : Node). Some n) (sym c.index-nodes-place.is) in
    let can : CanMake spec c.args.goal nodes old inputs = record {
      is_table = c.len.ensures.table;
      is_other = c.len-2.ensures.table;
      there = c.requires.there;
      fitting = c.requires.fits;
      pointer = c.requires.pointer;
      within = c.requires.within;
      sorts = c.requires.sorts;
    } in
    let ready =
    AreMade-ready spec c.args.goal nodes old c.loop-place.terms inputs c.loop-place.outs.items place node can
    c.loop-place.invariant at in
    record { ready = subst (IsNodeReady spec node c.loop-place.terms inputs) (sym c.as_slice.ensures.value) ready }

pub loop-place-preserved : goal.loop-place-preserved
loop-place-preserved c =
    let spec = c.args.spec.now in
    let nodes = c.args.nodes.now in
    let old = c.args.terms.now in
    let table = c.loop-place.terms in
    let new = c.node_terms.new.terms in
    let inputs = c.args.inputs.now in
    let node = c.index-nodes-place.result in
    let place = c.loop-place.place in
    let at : slice_get nodes place ≡ Some node =
    slice_get-get_or nodes place node c.loop-place-test.true
    ∙ ap (λ (n : Node). Some n) (sym c.index-nodes-place.is) in
    let can : CanMake spec c.args.goal nodes old inputs = record {
      is_table = c.len.ensures.table;
      is_other = c.len-2.ensures.table;
      there = c.requires.there;
      fitting = c.requires.fits;
      pointer = c.requires.pointer;
      within = c.requires.within;
      sorts = c.requires.sorts;
    } in
    let terms =
    ap (map (term_at new)) c.from_vec.ensures ∙ c.in_ok-found.ensures.terms
    ∙ ap (λ os. op_terms (slice_get (file spec).ops node.op) node.attrs
    (map (source_term (map (term_at table) inputs) (map (map (term_at table)) os)) node.args)) c.as_slice.ensures.value
    in
    AreMade-more spec c.args.goal nodes old table new inputs c.loop-place.outs.items c.push.new.self.items place node
    c.from_vec.result can c.loop-place.invariant at c.loop-place-test.true c.index-nodes-place.is
    c.in_ok-found.ensures.table c.in_ok-found.ensures.extends
    (subst (AreIn new) (sym c.from_vec.ensures) c.in_ok-found.ensures.within) terms c.in_ok-push.ensures.items
