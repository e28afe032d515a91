use Rattle.std.proofs.Common.{map}
use Rattle.sexp_read.specs.Forest.{tree_at}
use Rattle.isel_spec.specs.Spec.{file}
use Rattle.pattern_text.specs.Small.{claim_view}
use Rattle.pattern_text.proofs.ClaimLemmas.{rules-fault, rules-told, few-told}
use Rattle.pattern_text.proofs.claims.claim_of.Goals as goal

pub returns-in-Ok-clause-read : goal.returns-in-Ok-clause-read
returns-in-Ok-clause-read c =
    let form = claim_view (tree_at c.args.bytes.now c.args.forest.now.items) c.args.form.now in
    λ claims counted. rules-told (file c.args.spec.now) claims form c.args.goal c.args.before c.size_of-size.result
    c.in-Ok.rules.items c.claim_with.result counted c.size_of-size.ensures c.in-Ok.ensures.read
    c.claim_with.ensures.read

pub returns-in-Ok-clause-few : goal.returns-in-Ok-clause-few
returns-in-Ok-clause-few c =
    few-told c.args.before c.in-Ok.rules.items c.claim_with.result c.claim_with.ensures.same c.in-Ok.ensures.within

pub returns-in-Err-clause-read : goal.returns-in-Err-clause-read
returns-in-Err-clause-read c =
    let form = claim_view (tree_at c.args.bytes.now c.args.forest.now.items) c.args.form.now in
    λ claims counted. rules-fault (file c.args.spec.now) claims form c.args.goal c.args.before c.size_of-size.result
    c.in-Err.fault counted c.size_of-size.ensures c.in-Err.ensures.read
