use Rattle.std.proofs.Common.{◌<◌, drop, map, length, All}
use Rattle.sexp_read.specs.Forest.{tree_at}
use Rattle.spec_reader.specs.Form.{arg_in}
use Rattle.spec_reader.specs.Parts.{params_by}
use Rattle.spec_reader.proofs.EachLemmas.{EachLeft}
use Rattle.spec_reader.proofs.form.args_of.Given as goal

abbrev pub invariant-loop-item : goal.invariant-loop-item
invariant-loop-item l =
    let tree = tree_at l.bytes l.forest.items in
    record {
      value : EachLeft arg_in (params_by tree l.params.items) (map tree (drop l.item-index l.items)) (map tree l.items);
      within : All (λ param. param.name < length l.forest.items) l.params.items;
    }
