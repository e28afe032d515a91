use Rattle.std.proofs.Common.{◌≡◌, ◌∙◌, ◌&&◌, ap, map, sym}
use Rattle.std.specs.List.{list_all}
use Rattle.bv_terms.proofs.SubtermLemmas.{AreSubterms-within}
use Rattle.isel_spec.specs.Memory.{chains, is_marked, is_on}
use Rattle.term_text.specs.Build.{terms_at}
use Rattle.spec_reader.specs.declared.form.Param.{Param}
use Rattle.spec_reader.proofs.ShapeLemmas.{shape-nodes}
use Rattle.spec_reader.proofs.shape.has_memory_shape.Goals as goal

pub all_on-requires-clause-nodes_in : goal.all_on-requires-clause-nodes_in
all_on-requires-clause-nodes_in c =
    AreSubterms-within c.args.terms.now c.args.results.now c.args.nodes.now c.requires.nodes

pub all_marked-requires-clause-nodes_in : goal.all_marked-requires-clause-nodes_in
all_marked-requires-clause-nodes_in c =
    AreSubterms-within c.args.terms.now c.args.results.now c.args.nodes.now c.requires.nodes

pub returns-then-not-all_on : goal.returns-then-not-all_on
returns-then-not-all_on c =
    let table = c.args.terms.now in
    let memories = terms_at table c.as_slice-memories.result.now in
    let e : memories ≡ chains (terms_at table c.args.results.now) =
    ap (terms_at table) c.as_slice-memories.ensures.value ∙ c.in_ok-memories.ensures.chains in
    let marked = list_all (is_marked memories) (terms_at table c.args.nodes.now) in
    let on = list_all (is_on memories) (terms_at table c.args.nodes.now) in
    sym (shape-nodes table c.len-size.ensures.table c.args.results.now c.args.nodes.now c.requires.results_in
    c.requires.nodes (map (λ (p : Param). p.sort) c.args.args.now) memories e
    ∙ ap (λ b. b && on && marked) (sym c.has_one_memory.ensures ∙ c.if-not-has_one_memory.false)
    ∙ ap (λ b. b && marked) (sym c.all_on.ensures ∙ c.if-not-all_on.true))

pub returns : goal.returns
returns c =
    let table = c.args.terms.now in
    let memories = terms_at table c.as_slice-memories.result.now in
    let e : memories ≡ chains (terms_at table c.args.results.now) =
    ap (terms_at table) c.as_slice-memories.ensures.value ∙ c.in_ok-memories.ensures.chains in
    let marked = list_all (is_marked memories) (terms_at table c.args.nodes.now) in
    let on = list_all (is_on memories) (terms_at table c.args.nodes.now) in
    sym (shape-nodes table c.len-size.ensures.table c.args.results.now c.args.nodes.now c.requires.results_in
    c.requires.nodes (map (λ (p : Param). p.sort) c.args.args.now) memories e
    ∙ ap (λ b. b && on && marked) (sym c.has_one_memory.ensures ∙ c.if-not-has_one_memory.false)
    ∙ ap (λ b. b && marked) (sym c.all_on.ensures ∙ c.if-not-all_on.false)
    ∙ sym c.all_marked.ensures)
