-- The nodes are as many as the different subterms, and what is tested on them is tested on the results.
use Rattle.std.proofs.Common.{◌≡◌, ◌∙◌, IfOk, Option, Some, ap, arith, length, subst, sym}
use Rattle.bv_terms.specs.Subterm.{AreSubterms}
use Rattle.term_text.specs.Build.{terms_at}
use Rattle.spec_reader.specs.declared.fault.SpecFault.{SpecFault}
use Rattle.spec_reader.specs.Parts.{parts_by}
use Rattle.spec_reader.proofs.MemoryLemmas.{results-many, results-shape, results-goal, shape-said}
use Rattle.spec_reader.proofs.SubtermNodes.{subterm_count-nodes}
use Rattle.spec_reader.proofs.memory.results_fault.Goals as goal

pub returns-then-nodes-gt256 : goal.returns-then-nodes-gt256
returns-then-nodes-gt256 c = λ tree.
    let table = c.args.terms.now in
    let results = c.args.results.now in
    let nodes = c.as_slice-nodes.result.now in
    let are = subst (AreSubterms table results) (sym c.as_slice-nodes.ensures.value) c.in_ok-nodes.ensures.exact in
    let count = subterm_count-nodes table c.len-size.ensures.table results nodes c.requires.results_in are in
    c.above.ensures
    ∙ results-many (parts_by tree c.args.parts.now) (terms_at table results) c.args.span (length nodes) count
    (omega arith)

pub returns-then-not-branch : goal.returns-then-not-branch
returns-then-not-branch c = λ tree.
    let table = c.args.terms.now in
    let results = c.args.results.now in
    let nodes = c.as_slice-nodes.result.now in
    let are = subst (AreSubterms table results) (sym c.as_slice-nodes.ensures.value) c.in_ok-nodes.ensures.exact in
    let count = subterm_count-nodes table c.len-size.ensures.table results nodes c.requires.results_in are in
    let shape = shape-said tree c.args.parts.now.args.items c.as_slice.result.now (terms_at table results)
    c.in_ok-has_memory_shape.field-0 c.as_slice.ensures.value c.in_ok-has_memory_shape.ensures in
    ap Some c.fault_at.ensures
    ∙ results-shape (parts_by tree c.args.parts.now) (terms_at table results) c.args.span (length nodes) count
    (omega arith) (shape ∙ c.if-not-branch.true)

pub returns : goal.returns
returns c = λ tree.
    let table = c.args.terms.now in
    let results = c.args.results.now in
    let nodes = c.as_slice-nodes.result.now in
    let are = subst (AreSubterms table results) (sym c.as_slice-nodes.ensures.value) c.in_ok-nodes.ensures.exact in
    let count = subterm_count-nodes table c.len-size.ensures.table results nodes c.requires.results_in are in
    let shape = shape-said tree c.args.parts.now.args.items c.as_slice.result.now (terms_at table results)
    c.in_ok-has_memory_shape.field-0 c.as_slice.ensures.value c.in_ok-has_memory_shape.ensures in
    subst (λ (wrong : Option SpecFault). IfOk c.goal_fault.result (λ fault. fault ≡ wrong))
    (results-goal (parts_by tree c.args.parts.now) (terms_at table results) c.args.span (length nodes) count
    (omega arith) (shape ∙ c.if-not-branch.false))
    (c.goal_fault.ensures tree results c.requires.results_in are)
