use Rattle.std.proofs.Common.{arith, length, All}
use Rattle.pattern_core.specs.declared.pattern.Src.TheVariants.{Input}
use Rattle.pattern_core.specs.Walk.{IsBefore}
use Rattle.pattern_core.proofs.WalkLemmas.{HasWalked-start, HasWalked-more, HasWalked-fails, HasWalked-end}
use Rattle.pattern_core.proofs.WalkLemmas.{before-results, canonical-fails, canonical-decides}
use Rattle.pattern_core.proofs.walk.is_canonical.Goals as goal

pub loop-source-init : goal.loop-source-init
loop-source-init c =
    HasWalked-start c.as_slice-nodes.result.now
    (length c.as_slice-nodes.result.now) 0 c.as_slice-source-items.result.now (omega arith)

pub visit-requires-clause-within : goal.visit-requires-clause-within
visit-requires-clause-within c = c.loop-source.invariant.within

pub returns-in_default : goal.returns-in_default
returns-in_default c =
    let p = c.args.pattern.now in
    let nodes = c.as_slice-nodes.result.now in
    let xs = c.as_slice-source-items.result.now in
    let before : All (IsBefore (length nodes)) xs =
    before-results p nodes xs c.as_slice-nodes.ensures c.as_slice-source-items.ensures c.requires.forward in
    let out =
    HasWalked-fails nodes (length nodes) 0 c.loop-source.left xs c.loop-source.source-index
    (Input 0) c.loop-source.invariant c.loop-source-test.true before c.in_default.ensures.walked in
    (λ t. cc, λ h. absurd (canonical-fails p nodes xs c.as_slice-nodes.ensures c.as_slice-source-items.ensures out h))

pub loop-source-preserved : goal.loop-source-preserved
loop-source-preserved c =
    let p = c.args.pattern.now in
    let nodes = c.as_slice-nodes.result.now in
    let xs = c.as_slice-source-items.result.now in
    let before : All (IsBefore (length nodes)) xs =
    before-results p nodes xs c.as_slice-nodes.ensures c.as_slice-source-items.ensures c.requires.forward in
    HasWalked-more nodes (length nodes) 0 c.loop-source.left c.in-Some.more xs c.loop-source.source-index
    (Input 0) c.loop-source.invariant c.loop-source-test.true before c.in-Some.ensures.within
    c.in-Some.ensures.walked

pub returns : goal.returns
returns c =
    let p = c.args.pattern.now in
    let nodes = c.as_slice-nodes.result.now in
    let xs = c.as_slice-source-items.result.now in
    let done =
    HasWalked-end nodes (length nodes) 0 c.loop-source.left xs c.loop-source.source-index c.loop-source.invariant
    c.loop-source-test.false in
    canonical-decides p nodes xs c.loop-source.left c.as_slice-nodes.ensures c.as_slice-source-items.ensures done
