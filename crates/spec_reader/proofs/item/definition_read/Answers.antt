use Rattle.std.proofs.Common.{◌∙◌, sym}
use Rattle.sexp_read.specs.Forest.{tree_at}
use Rattle.isel_spec.specs.Spec.{file}
use Rattle.spec_reader.specs.Parts.{parts_by}
use Rattle.spec_reader.proofs.DefinitionLemmas.{no-names-fault}
use Rattle.spec_reader.proofs.item.definition_read.Goals as goal

pub spec_read-requires-clause-few : goal.spec_read-requires-clause-few
spec_read-requires-clause-few c =
    no-names-fault (file c.args.spec) c.args.span
    (parts_by (tree_at c.args.bytes.now c.args.forest.now.items) c.args.parts.now)
    (sym c.in-Ok.ensures ∙ c.in_default-wrong.is)
