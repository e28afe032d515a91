use Rattle.std.proofs.Common.{◌≡◌, arith, subst, option_map, IfOk, Option}
use Rattle.sexp_read.specs.Forest.{tree_at}
use Rattle.spec_reader.specs.Form.{Parts}
use Rattle.spec_reader.specs.Parts.{parts_by}
use Rattle.spec_reader.proofs.FormLemmas.{op-of-four, no-op}
use Rattle.spec_reader.proofs.form.op_from.Goals as goal

pub returns-then-items-ne4-clause-value : goal.returns-then-items-ne4-clause-value
returns-then-items-ne4-clause-value c =
    no-op (tree_at c.args.bytes.now c.args.forest.now.items) c.args.items.now (λ e. omega (arith, e))

pub returns-clause-value : goal.returns-clause-value
returns-clause-value c =
    let tree = tree_at c.args.bytes.now c.args.forest.now.items in
    subst (λ (parts : Option Parts). IfOk c.op_of.result (λ found. option_map (parts_by tree) found ≡ parts))
    (op-of-four tree c.args.items.now _ _ _ _ (omega arith)) c.op_of.ensures.value
