use Rattle.std.proofs.Common.{refl}
use Rattle.loc_encode.specs.declared.encoded.Encoded.{Encoded}
use Rattle.loc_encode.proofs.EncodedLemmas.{both-there, true-both, right-kept, right-blocked, difference-kept}
use Rattle.pattern_core.specs.Claim.{Claim, IsClaim}
use Rattle.loc_encode.specs.Parts.{IsTruthOver}
use Rattle.loc_encode.proofs.encoded.block.Goals as goal

pub made-requires : goal.made-requires
made-requires c =
    let old = c.args.terms.now in
    let mid = c.difference.new.terms in
    let first : (d : Claim) → IsClaim c.args.spec.now c.args.encoded.goal c.args.encoded.multi d
    → IsTruthOver d old c.args.encoded.formula =
    λ d is. let right = c.requires.right d is in right.over in
    let second : (d : Claim) → IsClaim c.args.spec.now c.args.encoded.goal c.args.encoded.multi d
    → IsTruthOver d mid c.in_ok-term.term =
    λ d is. let term = c.in_ok-term.ensures.difference d is in term.over in
    both-there c.args.spec.now c.args.encoded.goal c.args.encoded.multi c.requires.given.place old mid
    c.args.encoded.formula c.in_ok-term.term c.in_ok-term.ensures.extends first second

pub returns-clause-right : goal.returns-clause-right
returns-clause-right c = λ claim is.
    let more : Encoded =
    record {
      formula = c.in_ok-formula.formula;
      goal = c.args.encoded.goal;
      multi = c.args.encoded.multi;
      inputs = c.args.encoded.inputs;
      examples = c.args.encoded.examples;
      blocked = c.push.new.self;
    } in
    right-blocked claim c.args.encoded more c.args.pattern c.difference.new.terms c.made.new.terms c.in_ok-term.term
    (right-kept claim c.args.encoded c.args.terms.now c.difference.new.terms c.in_ok-term.ensures.extends
    (c.requires.right claim is))
    (c.in_ok-term.ensures.difference claim is) c.in_ok-formula.ensures.made refl c.in_ok-push.ensures.ok

pub returns-clause-formula : goal.returns-clause-formula
returns-clause-formula c = λ env.
    let old = c.args.terms.now in
    let mid = c.difference.new.terms in
    let first : (d : Claim) → IsClaim c.args.spec.now c.args.encoded.goal c.args.encoded.multi d
    → IsTruthOver d old c.args.encoded.formula =
    λ d is. let right = c.requires.right d is in right.over in
    let second : (d : Claim) → IsClaim c.args.spec.now c.args.encoded.goal c.args.encoded.multi d
    → IsTruthOver d mid c.in_ok-term.term =
    λ d is. let term = c.in_ok-term.ensures.difference d is in term.over in
    true-both c.args.spec.now c.args.encoded.goal c.args.encoded.multi c.requires.given.place old mid
    c.made.new.terms c.args.encoded.formula c.in_ok-term.term c.in_ok-formula.formula c.in_ok-term.ensures.extends
    c.in_ok-formula.ensures.extends first second c.in_ok-formula.ensures.made env

pub returns-clause-term : goal.returns-clause-term
returns-clause-term c = λ claim is.
    difference-kept claim c.args.pattern c.difference.new.terms c.made.new.terms c.in_ok-term.term
    c.in_ok-formula.ensures.extends
    (c.in_ok-term.ensures.difference claim is)
