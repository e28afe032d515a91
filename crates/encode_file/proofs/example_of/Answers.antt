use Rattle.std.proofs.Common.{ap, ◌∙◌}
use Rattle.isel_spec.specs.File.{sorts_in}
use Rattle.encode_file.proofs.ClaimLemmas.{no_memory}
use Rattle.encode_file.proofs.example_of.Goals as goal

pub tests-requires : goal.tests-requires
tests-requires c = record {
  plain = no_memory c.args.spec.now c.args.goal c.args.multi.now c.goal.ensures.0 c.goal.result.now
      c.deref.result.now c.goal.ensures.1 c.requires
      (c.deref.ensures.value ∙ c.in_ok-sorts.ensures ∙ ap sorts_in c.as_slice.ensures);
}
