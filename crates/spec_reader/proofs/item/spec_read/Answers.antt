use Rattle.spec_reader.proofs.GrowthLemmas.{grown-sound, grown-file}
use Rattle.spec_reader.proofs.item.spec_read.Goals as goal

pub invariant_of-result : goal.invariant_of-result
invariant_of-result c = record {
  sound = grown-sound c.args.spec.pointer c.args.spec.terms c.nodes_read.new.terms c.args.spec.ops c.args.spec.goals
      c.nodes_read.ensures.extends c.args.spec.sound;
}

pub returns-in-Ok-clause-same : goal.returns-in-Ok-clause-same
returns-in-Ok-clause-same c = grown-file c.args.spec c.nodes_read.new.terms c.nodes_read.ensures.extends
