use Rattle.std.proofs.Common.{false, arith}
use Rattle.circuit.specs.declared.signal.Signal.TheVariants.{Constant}
use Rattle.circuit.proofs.GrowthLemmas.{grows-itself, grows-then}
use Rattle.word_circuits.proofs.WordLemmas.{word-grows}
use Rattle.word_circuits.proofs.ProductLemmas.{product-start, product-more}
use Rattle.word_circuits.proofs.products.product_of.Goals as goal

pub loop-place-init : goal.loop-place-init
loop-place-init c = (
  grows-itself c.requires.netlist,
  product-start c.args.left.now c.in_ok-result.result (c.in_ok-result.ensures c.args.circuit.now),
)

pub loop-place-preserved : goal.loop-place-preserved
loop-place-preserved c = (
  grows-then c.loop-place.invariant.0 (grows-then c.in_ok-row.ensures.grows c.in_ok-result-2.ensures.grows),
  product-more c.args.left.now c.args.right.now c.loop-place.result c.as_slice.result.now c.in_ok-row.row
      c.as_slice-in-loop-place.result.now c.in_ok-result-2.result c.loop-place.place (Constant false) (omega arith)
      c.as_slice.ensures c.as_slice-in-loop-place.ensures
      (word-grows c.in_ok-result-2.ensures.grows (word-grows c.in_ok-row.ensures.grows c.loop-place.invariant.1))
      (word-grows c.in_ok-result-2.ensures.grows c.in_ok-row.ensures.word) c.in_ok-result-2.ensures.word,
)
