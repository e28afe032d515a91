use Rattle.std.proofs.Common.{◌≡◌, sym, subst, Result, Ok, Err, ◌⊎◌}
use Rattle.std.specs.Prelude.{MatchResult}
use Rattle.list_lemmas.proofs.Options.{looked_up}
use Rattle.sexp_read.specs.Forest.{tree_at}
use Rattle.isel_spec.specs.File.{File}
use Rattle.isel_spec.specs.Spec.{file}
use Rattle.spec_reader.specs.declared.fault.SpecFault.{SpecFault}
use Rattle.spec_reader.specs.declared.fault.SpecKind.TheVariants.{NoMemory}
use Rattle.spec_reader.specs.Form.{parts_in}
use Rattle.spec_reader.specs.Parts.{parts_by}
use Rattle.spec_reader.proofs.DefinitionLemmas.{item-is}
use Rattle.spec_reader.proofs.item.item_read.Goals as goal

pub returns : goal.returns
returns c =
    let tree = tree_at c.args.bytes.now c.args.forest.now.items in
    let span = c.span-2.ensures c.args.bytes.now c.requires.reading in
    subst (λ (read : Result File SpecFault). MatchResult c.definition_read.result (λ more. read ≡ Ok (file more))
    (λ fault. (fault.kind ≡ NoMemory) ⊎ (read ≡ Err fault)))
    (sym (item-is (file c.args.spec) (tree c.args.item) c.span-2.result (parts_by tree c.in-Some.parts)
    (λ i. (span.0 i, span.1 i))
    (looked_up (parts_by tree) c.in-Ok.found c.in-Some.parts (parts_in (tree c.args.item)) c.in-Ok.ensures.value
    c.in-Some.is)))
    c.definition_read.ensures
