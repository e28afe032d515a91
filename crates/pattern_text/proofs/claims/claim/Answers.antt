use Rattle.std.proofs.Common.{inr}
use Rattle.sexp_read.specs.Forest.{tree_at}
use Rattle.isel_spec.specs.Spec.{file}
use Rattle.pattern_text.specs.Small.{claim_view}
use Rattle.pattern_text.proofs.ClaimLemmas.{item-claims, item-fault}
use Rattle.pattern_text.proofs.claims.claim.Goals as goal

pub returns-in-Ok-clause-read : goal.returns-in-Ok-clause-read
returns-in-Ok-clause-read c =
    let tree = tree_at c.args.bytes.now c.args.forest.now.items in
    item-claims (file c.args.spec.now) c.args.claims.now (tree c.args.item) (claim_view tree c.in-Ok.form) c.in-Ok.goal
    c.claim_of.result c.in-Ok.ensures.read (c.claim_of.ensures.read c.args.claims.now c.requires.counted)

pub returns-in-Err-clause-read : goal.returns-in-Err-clause-read
returns-in-Err-clause-read c =
    let tree = tree_at c.args.bytes.now c.args.forest.now.items in
    inr (item-fault (file c.args.spec.now) c.args.claims.now (tree c.args.item) c.in-Err.fault c.in-Err.ensures.read)
