use Rattle.sexp_read.specs.Forest.{tree_at}
use Rattle.isel_spec.specs.Spec.{file}
use Rattle.pattern_text.specs.Small.{claim_view}
use Rattle.pattern_text.proofs.ClaimLemmas.{opens-stopped}
use Rattle.pattern_text.proofs.claims.claim_with.Goals as goal

pub returns-in-Err-clause-read : goal.returns-in-Err-clause-read
returns-in-Err-clause-read c =
    let form = claim_view (tree_at c.args.bytes.now c.args.forest.now.items) c.args.form.now in
    opens-stopped (file c.args.spec.now) form c.args.goal c.args.rules.items c.in-Err.fault c.in-Err.ensures
