use Rattle.std.proofs.Common.{◌<◌, ◌∙◌, get_or, length, length-set, arith}
use Rattle.list_lemmas.proofs.Lookups.{read-within}
use Rattle.cdcl_base.proofs.MarkLemmas.{number-at, unmark-more}
use Rattle.cdcl_base.proofs.analysis.unmark.Goals as goal

pub bounds-marks-variable : goal.bounds-marks-variable
bounds-marks-variable c =
    let within =
    read-within c.args.marks.now (get_or c.args.marked.now c.loop-variable.variable-index 0)
    (c.requires (get_or c.args.marked.now c.loop-variable.variable-index 0)
    ∙ number-at c.args.marked.now c.loop-variable.variable-index 0 c.loop-variable-test.true) in
    let same = c.loop-variable.invariant.len in
    omega (arith, within, same)

pub loop-variable-preserved : goal.loop-variable-preserved
loop-variable-preserved c =
    let within : get_or c.args.marked.now c.loop-variable.variable-index 0 < length c.loop-variable.marks =
    (let known =
    read-within c.args.marks.now (get_or c.args.marked.now c.loop-variable.variable-index 0)
    (c.requires (get_or c.args.marked.now c.loop-variable.variable-index 0)
    ∙ number-at c.args.marked.now c.loop-variable.variable-index 0 c.loop-variable-test.true) in
    let same = c.loop-variable.invariant.len in
    omega (arith, known, same)) in
    record {
      len = length-set c.loop-variable.marks (get_or c.args.marked.now c.loop-variable.variable-index 0) _
          ∙ c.loop-variable.invariant.len;
      left =
          unmark-more c.loop-variable.marks c.args.marked.now c.loop-variable.variable-index 0
          c.loop-variable-test.true within c.loop-variable.invariant.left;
    }
