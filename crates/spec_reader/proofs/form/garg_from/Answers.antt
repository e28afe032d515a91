use Rattle.std.proofs.Common.{arith}
use Rattle.sexp_read.specs.Forest.{tree_at}
use Rattle.spec_reader.proofs.FormLemmas.{no-garg}
use Rattle.spec_reader.proofs.form.garg_from.Goals as goal

pub returns-in_default-clause-value : goal.returns-in_default-clause-value
returns-in_default-clause-value c =
    no-garg (tree_at c.args.bytes.now c.args.forest.now.items) c.args.items.now (λ e. omega (arith, e))
