use Rattle.std.proofs.Common.{◌∙◌, List, All, ap, sym, subst, reverse}
use Rattle.bv_terms.proofs.GraftLemmas.{Extends-itself, Extends-further}
use Rattle.pattern_core.specs.declared.pattern.Pattern.{Pattern}
use Rattle.loc_encode.specs.Given.{IsPatternFor, IsBlocking}
use Rattle.loc_encode.proofs.EncodedLemmas.{blocking-first, blocking-more, last-one, for-now}
use Rattle.loc_encode.proofs.encoded.with_blocked.Goals as goal

pub loop-pattern-init : goal.loop-pattern-init
loop-pattern-init c =
    let s = c.args.spec.now in
    let first = c.args.encoded in
    let patterns = c.args.patterns in (
      Extends-itself c.args.terms.now,
      subst (λ (xs : List Pattern). IsBlocking s first patterns xs first c.args.terms.now)
          (sym (c.reverse.ensures.items ∙ ap reverse c.into_vec-left.ensures))
          (blocking-first s first patterns c.args.terms.now c.requires.right c.requires.patterns),
    )

pub block-requires-clause-pattern : goal.block-requires-clause-pattern
block-requires-clause-pattern c =
    let s = c.args.spec.now in
    let first = c.args.encoded in
    let is : IsBlocking s first c.args.patterns c.loop-pattern.left.items c.loop-pattern.all c.loop-pattern.terms =
    c.loop-pattern.invariant.1 in
    let fit : All (IsPatternFor s first.goal first.multi) c.loop-pattern.left.items = is.fit in
    for-now (λ g ops. IsPatternFor s g ops c.in-Some.pattern) first.goal first.inputs first.multi first.examples
    is.keeps.0
    c.loop-pattern.all is.keeps.2
    (last-one (IsPatternFor s first.goal first.multi) c.pop.new.self.items c.in-Some.pattern
    (subst (All (IsPatternFor s first.goal first.multi)) c.in-Some.ensures.items fit))

pub loop-pattern-preserved : goal.loop-pattern-preserved
loop-pattern-preserved c =
    let s = c.args.spec.now in
    let first = c.args.encoded in (
      Extends-further c.args.terms.now c.loop-pattern.terms c.block.new.terms c.loop-pattern.invariant.0
          c.in_ok-more.ensures.extends,
      blocking-more s first c.args.patterns c.pop.new.self.items c.in-Some.pattern c.loop-pattern.all c.in_ok-more.more
          c.loop-pattern.terms c.block.new.terms
          (subst (λ (xs : List Pattern). IsBlocking s first c.args.patterns xs c.loop-pattern.all c.loop-pattern.terms)
          c.in-Some.ensures.items c.loop-pattern.invariant.1)
          c.in_ok-more.ensures.right c.in_ok-more.ensures.kept,
    )
