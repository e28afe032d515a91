use Rattle.std.proofs.Common.{arith}
use Rattle.isel_spec.specs.Memory.{chains}
use Rattle.term_text.specs.Build.{terms_at}
use Rattle.spec_reader.proofs.ShapeLemmas.{chains-next}
use Rattle.spec_reader.proofs.shape.chains.Goals as goal

pub loop-at-preserved : goal.loop-at-preserved
loop-at-preserved c =
    let table = c.args.terms.now in
    record {
      chains = chains-next table c.loop-at.nodes.items c.add_if_memory.new.nodes.items c.args.results.now
          c.loop-at.at-index (record { 0 = 0 }) (chains (terms_at table c.args.results.now)) (omega arith)
          c.in_ok-add_if_memory.ensures.chain c.loop-at.invariant.chains;
      within = c.in_ok-add_if_memory.ensures.within;
    }
