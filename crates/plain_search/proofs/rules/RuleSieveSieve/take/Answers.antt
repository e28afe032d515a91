use Rattle.std.proofs.Common.{[], ◌∷◌, ◌++◌, ap, ◌∙◌, refl, inl, inr}
use Rattle.list_lemmas.proofs.Bools.{not_by_test}
use Rattle.pattern_core.specs.declared.pattern.Pattern.{Pattern}
use Rattle.plain_search.proofs.SieveLemmas.{Keeps-from_kept}
use Rattle.plain_search.proofs.rules.RuleSieveSieve.take.Goals as goal

pub returns-then-not-branch-clause-taken : goal.returns-then-not-branch-clause-taken
returns-then-not-branch-clause-taken c =
    Keeps-from_kept c.args.spec.now c.args.goal c.args.pattern.now c.args.self.now _ c.requires.for_goal refl refl
    (λ g there. inr (not_by_test _ c.if-not-branch.true (c.in_ok-is_rule.ensures.rule g there), refl))

pub returns-clause-taken : goal.returns-clause-taken
returns-clause-taken c =
    Keeps-from_kept c.args.spec.now c.args.goal c.args.pattern.now c.args.self.now _ c.requires.for_goal refl refl
    (λ g there. inl (
      (c.in_ok-is_rule.ensures.rule g there).0 c.if-not-branch.false,
      c.in_ok-push.ensures.items
          ∙ ap (λ (p : Pattern). c.args.self.now.found.items ++ p ∷ []) c.in_ok-copied_pattern.ensures,
    ))
