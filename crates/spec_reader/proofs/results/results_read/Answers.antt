use Rattle.std.proofs.Common.{◌+◌, map, drop, sym, ap, ◌∙◌, subst, arith, Err}
use Rattle.std.proofs.lemmas.Result.{err_from_is_err_and}
use Rattle.sexp_read.specs.Forest.{tree_at}
use Rattle.term_text.specs.Scope.{terms_under}
use Rattle.term_text.proofs.BuildLemmas.{Extends-further}
use Rattle.spec_reader.specs.Walk.{results_read}
use Rattle.spec_reader.specs.Results.{AreResults}
use Rattle.spec_reader.proofs.ResultLemmas.{HasResults, results-next, results-stop}
use Rattle.spec_reader.proofs.results.results_read.Goals as goal

pub returns-in_err-node-clause-read : goal.returns-in_err-node-clause-read
returns-in_err-node-clause-read c =
    let is = err_from_is_err_and c.from_residual.result c.from_residual.ensures.1 in
    let f = tree_at c.args.bytes.now c.args.forest.now.items in
    let scope = terms_under c.args.terms.now c.args.names.now in
    subst (AreResults c.result_read.new.terms (results_read c.args.terms.now.pointer scope (map f c.args.items.now)))
    (sym (is.1 ∙ ap Err is.2))
    (results-stop c.args.terms.now c.loop-item.terms c.result_read.new.terms c.args.names.now f c.args.items.now
    c.loop-item.item-index c.loop-item.nodes.items c.in_err-node.field-0.0 (map f c.args.items.now) (omega arith)
    c.loop-item.invariant.extends c.requires.names c.loop-item.invariant.read c.in_err-node.ensures.read)

pub loop-item-preserved : goal.loop-item-preserved
loop-item-preserved c =
    let f = tree_at c.args.bytes.now c.args.forest.now.items in
    let scope = terms_under c.args.terms.now c.args.names.now in
    record {
      extends = Extends-further c.args.terms.now c.loop-item.terms c.result_read.new.terms c.loop-item.invariant.extends
          c.in_ok-node.ensures.extends;
      read = subst (HasResults c.args.terms.now.pointer scope (map f c.args.items.now)
          (map f (drop (c.loop-item.item-index + 1) c.args.items.now)) c.result_read.new.terms)
          (sym c.in_ok-push.ensures.items)
          (results-next c.args.terms.now c.loop-item.terms c.result_read.new.terms c.args.names.now f c.args.items.now
          c.loop-item.item-index c.loop-item.nodes.items c.in_ok-node.node (map f c.args.items.now) (omega arith)
          c.loop-item.invariant.extends c.requires.names c.loop-item.invariant.read c.in_ok-node.ensures.extends
          c.in_ok-node.ensures.read);
    }
