use Rattle.std.proofs.Common.{sym, subst, Vec, Global}
use Rattle.isel_spec.specs.Spec.{file}
use Rattle.pattern_core.specs.declared.pattern.Pattern.{Pattern}
use Rattle.pattern_core.proofs.TotalLemmas.{IsLimited-from_spec}
use Rattle.plain_search.specs.declared.rules.RuleSieve.{RuleSieve}
use Rattle.plain_search.specs.Rules.{AreRulesOf, IsSmall}
use Rattle.plain_search.proofs.SieveLemmas.{rules-from_sieve}
use Rattle.plain_search.proofs.SizeLemmas.{rules_plain}
use Rattle.plain_search.proofs.rules.rules_of.Goals as goal

pub returns-clause-rules : goal.returns-clause-rules
returns-clause-rules c = λ g there.
    let s = c.args.spec.now in
    let old = c.args.sieve.now in
    let table = c.requires.for_goal.table in
    let small : IsSmall g = c.requires.for_goal.small g there in
    let start : RuleSieve = record {
      spec = old.spec;
      goal = old.goal;
      wanted = old.wanted;
      evaluation = old.evaluation;
      found = c.new.result;
    } in
    subst (λ (v : Vec Pattern Global). AreRulesOf (file s) g c.args.multi.now v.items) (sym c.replace.ensures.value)
    (rules-from_sieve s c.args.goal g there c.args.multi.now start c.each_pattern.new.sieve
    (IsLimited-from_spec s c.args.goal g table there) (rules_plain s c.args.goal g table there small.no_memory)
    c.requires.for_goal.spec c.requires.for_goal.goal c.new.ensures.items
    (c.in_ok-each_pattern.ensures.patterns g there))
