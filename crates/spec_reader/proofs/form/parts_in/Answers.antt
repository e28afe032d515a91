use Rattle.std.proofs.Common.{◌≡◌, map, IfSome, true}
use Rattle.std.proofs.lemmas.Result.{IfOk-weaker}
use Rattle.sexp_read.specs.Forest.{tree_at}
use Rattle.spec_reader.specs.Form.{is_name_in}
use Rattle.spec_reader.proofs.FormedLemmas.{parts-named}
use Rattle.spec_reader.proofs.form.parts_in.Goals as goal

pub returns-clause-named : goal.returns-clause-named
returns-clause-named c =
    let tree = tree_at c.args.bytes.now c.args.forest.now.items in
    IfOk-weaker c.parts_from.result _ (λ found. IfSome found (λ parts. is_name_in (tree parts.name) ≡ true))
    (λ found e. parts-named tree found (map tree c.in-Some.members.now) e) c.parts_from.ensures.value
