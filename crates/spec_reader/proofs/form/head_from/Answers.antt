use Rattle.std.proofs.Common.{arith}
use Rattle.sexp_read.specs.Forest.{tree_at}
use Rattle.spec_reader.proofs.FormLemmas.{no-head}
use Rattle.spec_reader.proofs.form.head_from.Goals as goal

pub returns-in_default-clause-value : goal.returns-in_default-clause-value
returns-in_default-clause-value c =
    no-head (tree_at c.args.bytes.now c.args.forest.now.items) c.args.items.now (λ e. omega (arith, e))

pub returns-in_default-2-clause-value : goal.returns-in_default-2-clause-value
returns-in_default-2-clause-value c =
    no-head (tree_at c.args.bytes.now c.args.forest.now.items) c.args.items.now (λ e. omega (arith, e))
