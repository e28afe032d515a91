use Rattle.std.proofs.Common.{◌≡◌, ℕ, List, [], Option, IfSome, Vec, Global, subst}
use Rattle.std.proofs.lemmas.Result.{IfOk-weaker}
use Rattle.isel_spec.specs.Spec.{file}
use Rattle.pattern_core.specs.declared.pattern.Pattern.{Pattern}
use Rattle.pattern_core.specs.Library.{AreRules}
use Rattle.plain_search.specs.Rules.{AreRulesOf}
use Rattle.plain_search.proofs.SizeLemmas.{no_rules-without_operations, rules-without_nodes}
use Rattle.plain_search.proofs.rules.rules_without_operations.Goals as goal

pub returns-then-size-gt0-clause-rules : goal.returns-then-size-gt0-clause-rules
returns-then-size-gt0-clause-rules c = λ g there.
    no_rules-without_operations c.args.spec.now g c.args.size c.new.result.items c.requires.no_ops c.if-size-gt0.true
    c.new.ensures.items

pub returns-clause-rules : goal.returns-clause-rules
returns-clause-rules c = λ g there.
    let f = file c.args.spec.now in
    let ops : List ℕ = c.unwrap-none.result in
    let empty : ops ≡ [] =
    subst (λ (o : Option (List ℕ)). IfSome o (λ multi. multi ≡ [])) c.unwrap-none.ensures c.new-2.ensures.numbers in
    IfOk-weaker c.rules_of.result (λ (rules : Vec Pattern Global). AreRulesOf f g ops rules.items)
    (λ (rules : Vec Pattern Global). AreRules f g c.args.size rules.items)
    (λ rules of. rules-without_nodes f g c.args.size ops rules.items c.if-size-gt0.false empty of)
    (c.rules_of.ensures.rules g there)
