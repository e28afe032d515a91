use Rattle.std.proofs.Common.{◌≡◌, ◌≤◌, ap, sym, ◌∙◌, subst₂, length, take, take_all, arith}
use Rattle.cdcl_base.specs.ClauseLists.{clauses_of, AreEnds, start_of}
use Rattle.cdcl_base.proofs.ClauseLemmas.{length-clauses_of, clauses-fewer, ends-fewer}
use Rattle.cdcl_base.proofs.clauses.Clauses.truncate.Goals as goal

pub invariant_of-self : goal.invariant_of-self
invariant_of-self c =
    let few : c.args.count ≤ length c.self.inside.ends.items = omega arith in
    let start : c.start_of-start.result ≡ start_of 0 c.self.inside.ends.items c.args.count =
    c.start_of-start.ensures ∙ ap (λ es. start_of 0 es c.args.count) c.as_slice.ensures.value in
    subst₂ (λ es ls. AreEnds 0 es (length ls)) (sym c.truncate-then-count-len.ensures.items)
    (sym (c.truncate.ensures.items ∙ ap (λ n. take n c.self.inside.lits.items) start))
    (ends-fewer c.self.inside.lits.items c.self.inside.ends.items c.args.count c.self.invariant few)

pub returns-then-count-len : goal.returns-then-count-len
returns-then-count-len c =
    let few : c.args.count ≤ length c.self.inside.ends.items = omega arith in
    let start : c.start_of-start.result ≡ start_of 0 c.self.inside.ends.items c.args.count =
    c.start_of-start.ensures ∙ ap (λ es. start_of 0 es c.args.count) c.as_slice.ensures.value in
    (λ i. clauses_of ((c.truncate.ensures.items ∙ ap (λ n. take n c.self.inside.lits.items) start) i) 0
    (c.truncate-then-count-len.ensures.items i))
    ∙ clauses-fewer c.self.inside.lits.items c.self.inside.ends.items c.args.count c.self.invariant few
    ∙ ap (take c.args.count) c.self.view_is

pub returns-else-count-len : goal.returns-else-count-len
returns-else-count-len c =
    let size = length-clauses_of c.self.inside.lits.items 0 c.self.inside.ends.items in
    let there = ap length c.self.view_is in
    sym (take_all c.args.count c.args.self.now (omega (arith, size, there)))
