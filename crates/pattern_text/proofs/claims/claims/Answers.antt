use Rattle.std.proofs.Common.{◌∙◌, ◌+◌, ap, Ok, Err, get_or}
use Rattle.sexp_read.specs.Forest.{tree_at}
use Rattle.isel_spec.specs.Spec.{file}
use Rattle.pattern_text.specs.Reading.{rule_count}
use Rattle.pattern_text.proofs.ClaimLemmas.{one-claim-more, claims-fault, claims-at}
use Rattle.pattern_text.proofs.claims.claims.Goals as goal

pub claim-requires-clause-counted : goal.claim-requires-clause-counted
claim-requires-clause-counted c =
    ap rule_count c.as_slice-earlier.ensures.value ∙ c.loop-item.invariant.counted

pub returns-in-Err : goal.returns-in-Err
returns-in-Err c =
    let f = file c.args.spec.now in
    let tree = tree_at c.args.bytes.now c.args.forest.now.items in
    claims-fault f tree c.args.items.now c.loop-item.item-index c.loop-item.before c.loop-item.claims.items
    c.in-Err.fault c.loop-item-test.true c.loop-item.invariant
    (claims-at f c.as_slice-earlier.result.now c.loop-item.claims.items
    (tree (get_or c.args.items.now c.loop-item.item-index 0)) (Err c.in-Err.fault) c.as_slice-earlier.ensures.value
    c.in-Err.ensures.read)

pub loop-item-preserved : goal.loop-item-preserved
loop-item-preserved c =
    let f = file c.args.spec.now in
    let tree = tree_at c.args.bytes.now c.args.forest.now.items in
    one-claim-more f tree c.args.items.now c.loop-item.item-index c.loop-item.before
    (c.loop-item.before + c.len-before.result) c.loop-item.claims.items
    c.push.new.self.items c.in-Ok.claim c.loop-item-test.true c.loop-item.invariant
    (claims-at f c.as_slice-earlier.result.now c.loop-item.claims.items
    (tree (get_or c.args.items.now c.loop-item.item-index 0)) (Ok c.in-Ok.claim) c.as_slice-earlier.ensures.value
    c.in-Ok.ensures.read)
    c.in-Ok.ensures.few (ap (λ n. c.loop-item.before + n) c.len-before.ensures) c.in_ok-push.ensures.items
