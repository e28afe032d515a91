use Rattle.std.proofs.Common.{sym, ◌∙◌, arith}
use Rattle.term_text.proofs.ScopeLemmas.{innermost-found}
use Rattle.term_text.proofs.scope.innermost.Goals as goal

pub returns-in-Some : goal.returns-in-Some
returns-in-Some c =
    sym (c.loop-place.invariant
    ∙ innermost-found c.args.bound.now c.loop-place.place c.index-bound-place.result c.args.name.now _ (omega arith)
    (omega arith) c.index-bound-place.is c.in-Some.ensures)

pub loop-place-preserved : goal.loop-place-preserved
loop-place-preserved c =
    c.loop-place.invariant
    ∙ innermost-found c.args.bound.now c.loop-place.place c.index-bound-place.result c.args.name.now _ (omega arith)
    (omega arith) c.index-bound-place.is c.in_default.ensures
