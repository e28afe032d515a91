use Rattle.std.proofs.Common.{◌≢◌, ◌∙◌, ◌*◌, ◌^◌, ◌++◌, [], All, List, ap, sym, subst, subst₂, arith, length}
use Rattle.std.proofs.lemmas.Result.{on_ok_weaker}
use Rattle.cnf_core.specs.declared.clause.Clause.{Clause}
use Rattle.cnf_core.specs.Clause.{IsOver}
use Rattle.cdcl_base.specs.Trail.{Trail}
use Rattle.cdcl_watch.specs.Attach.{IsAttaching}
use Rattle.cdcl_watch.proofs.SearchSteps.{attaching-begins, begun, over-wider}
use Rattle.cdcl_watch.proofs.search.Search.begin.Goals as goal

pub reset-requires : goal.reset-requires
reset-requires c =
    let few = c.variables-2.ensures.trail.small in
    omega (arith, few, c.variables-2.ensures.variables)

pub add_all-requires : goal.add_all-requires
add_all-requires c =
    let few = c.variables-2.ensures.trail.small in
    let same = ap (λ (t : Trail). t.variables) c.in_ok-resize.ensures.trail in
    subst (λ cs. All (λ (x : Clause). IsOver (2 ^ 31) x.lits) cs) (sym c.clauses-clauses.ensures.clauses)
    (over-wider c.args.cnf.now.variables (2 ^ 31) c.args.cnf.now.clauses
    (omega (arith, few, same, c.variables.ensures)) c.clauses-clauses.ensures.formula)

pub attach-requires-clause-filled : goal.attach-requires-clause-filled
attach-requires-clause-filled c =
    subst (All (λ (x : Clause). x.lits ≢ []))
    (sym (c.in_ok-add_all.ensures ∙ ap (λ (cs : List Clause). cs ++ c.clauses-clauses.result.now) c.clear-2.ensures
    ∙ c.clauses-clauses.ensures.clauses)) c.requires

pub attach-requires-clause-over : goal.attach-requires-clause-over
attach-requires-clause-over c =
    subst₂ (λ n cs. All (λ (x : Clause). IsOver n x.lits) cs)
    (sym (ap (λ (t : Trail). t.variables) c.in_ok-resize.ensures.trail ∙ c.variables.ensures))
    (sym (c.in_ok-add_all.ensures ∙ ap (λ (cs : List Clause). cs ++ c.clauses-clauses.result.now) c.clear-2.ensures
    ∙ c.clauses-clauses.ensures.clauses)) c.clauses-clauses.ensures.formula

pub attach-requires-clause-few : goal.attach-requires-clause-few
attach-requires-clause-few c = omega (arith, ap length c.clear.ensures.items)

pub attach-requires-clause-attaching : goal.attach-requires-clause-attaching
attach-requires-clause-attaching c =
    subst (λ ps. IsAttaching c.add_all.new.clauses ps c.reset.new.self c.resize.new.self.trail)
    (sym c.clear.ensures.items)
    (attaching-begins c.add_all.new.clauses c.reset.new.self c.variables.result c.resize.new.self.trail
    c.variables-2.ensures.trail c.in_ok-resize.ensures.trail c.in_ok-reset.ensures.empty
    (c.in_ok-reset.ensures.length
    ∙ ap (λ n. 2 * n) (c.variables-2.ensures.variables
    ∙ ap (λ (t : Trail). t.variables) c.in_ok-resize.ensures.trail)))

pub returns-clause-clauses : goal.returns-clause-clauses
returns-clause-clauses c =
    on_ok_weaker c.attach.result
    (λ v. c.in_ok-add_all.ensures ∙ ap (λ (cs : List Clause). cs ++ c.clauses-clauses.result.now) c.clear-2.ensures
    ∙ c.clauses-clauses.ensures.clauses)
    c.attach.ensures.variables

pub returns-clause-variables : goal.returns-clause-variables
returns-clause-variables c =
    on_ok_weaker c.attach.result
    (λ v. v ∙ ap (λ (t : Trail). t.variables) c.in_ok-resize.ensures.trail ∙ c.variables.ensures)
    c.attach.ensures.variables

pub returns-clause-ready : goal.returns-clause-ready
returns-clause-ready c =
    let sizes = c.in_ok-resize.ensures.sizes in
    begun c.attach.result c.attach.ensures.variables c.attach.ensures.trail c.attach.ensures.none
    (λ v it watching. record {
      trail = it;
      sizes = record {
        scored = sizes.scored ∙ sym v;
        ordered = sizes.ordered ∙ sym v;
        analyzed = sizes.analyzed ∙ sym v;
      };
      filled = subst (All (λ (x : Clause). x.lits ≢ []))
          (sym (c.in_ok-add_all.ensures ∙ ap (λ (cs : List Clause). cs ++ c.clauses-clauses.result.now)
          c.clear-2.ensures
          ∙ c.clauses-clauses.ensures.clauses)) c.requires;
      watching = watching;
    })
