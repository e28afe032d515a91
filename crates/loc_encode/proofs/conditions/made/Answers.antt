use Rattle.bv_terms.proofs.MakeLemmas.{node-sorted}
use Rattle.list_lemmas.proofs.Options.{some-is}
use Rattle.loc_encode.proofs.conditions.made.Goals as goal

pub returns-in-Ok-clause-made : goal.returns-in-Ok-clause-made
returns-in-Ok-clause-made c =
    let sorted = node-sorted c.make.new.self c.make.ensures.table c.in-Ok.node.0 c.in-Ok.ensures.within in
    record {
      there = c.in-Ok.ensures.within;
      term = c.in-Ok.ensures.term;
      sorted = some-is _ sorted.0 sorted.1;
    }
