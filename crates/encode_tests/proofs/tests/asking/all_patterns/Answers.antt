use Rattle.std.proofs.Common.{subst}
use Rattle.std.specs.Prelude.{IfSome}
use Rattle.loc_encode.specs.Encoded.{IsSought}
use Rattle.encode_tests.proofs.KeptLemmas.{given-kept}
use Rattle.encode_tests.proofs.tests.asking.all_patterns.Goals as goal

pub loop-init : goal.loop-init
loop-init c = (c.requires.given, c.requires.right, c.in_ok-session.ensures.right c.args.terms.now)

pub comes_back-requires-clause-sought : goal.comes_back-requires-clause-sought
comes_back-requires-clause-sought c = λ claim is.
    subst (λ found. IfSome found (IsSought claim c.loop.rest)) c.in-Some.is (c.in_ok-next.ensures.sought claim is)

pub block-requires-clause-pattern : goal.block-requires-clause-pattern
block-requires-clause-pattern c = λ claim is.
    let sought : IsSought claim c.loop.rest c.in-Some.pattern =
    subst (λ found. IfSome found (IsSought claim c.loop.rest)) c.in-Some.is (c.in_ok-next.ensures.sought claim is) in
    sought.pattern

pub loop-preserved : goal.loop-preserved
loop-preserved c = (
  given-kept c.args.spec.now c.loop.rest c.in_ok-more.more c.loop.rest.inputs c.loop.rest.examples _
      c.in_ok-more.ensures.kept c.loop.invariant.0,
  c.in_ok-more.ensures.right,
  c.formulas.ensures.extends c.loop.terms c.block.new.terms c.in_ok-more.ensures.extends
      c.in_ok-next.ensures.session,
)
