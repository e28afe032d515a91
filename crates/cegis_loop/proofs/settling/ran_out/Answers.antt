use Rattle.std.proofs.Common.{◌∙◌, ℕ, ◌^◌, ◌<◌, List, refl, sym, subst, arith}
use Rattle.isel_spec.specs.Spec.{file}
use Rattle.pattern_core.specs.Claim.{Claim, IsClaim}
use Rattle.pattern_core.specs.declared.pattern.Pattern.{Pattern}
use Rattle.plain_search.specs.Rules.{AreRulesOf}
use Rattle.plain_search.specs.Trials.{trials_of}
use Rattle.claim_outcome.specs.declared.outcome.End.TheVariants.{Decided}
use Rattle.claim_outcome.specs.Outcome.{IsRight}
use Rattle.cegis_loop.proofs.SettlingLemmas.{of-claim, right-where_listed, below-count, below-many}
use Rattle.cegis_loop.proofs.settling.ran_out.Goals as goal
use Rattle.cegis_loop.proofs.settling.ran_out.Goals.{in-Some+else-count-budget, in_default}

pub trials-requires-clause-no_memory : goal.trials-requires-clause-no_memory
trials-requires-clause-no_memory c = λ g h.
    let k : Claim = record { file = file c.args.spec.now; goal = g; ops = c.args.multi.now } in
    let is : IsClaim c.args.spec.now c.args.goal c.args.multi.now k =
    record { of_file = refl; of_goal = h; of_ops = refl } in
    c.requires.given.plain k is

pub search_multi-requires-clause-no_memory : goal.search_multi-requires-clause-no_memory
search_multi-requires-clause-no_memory c = λ g h.
    let k : Claim = record { file = file c.args.spec.now; goal = g; ops = c.args.multi.now } in
    let is : IsClaim c.args.spec.now c.args.goal c.args.multi.now k =
    record { of_file = refl; of_goal = h; of_ops = refl } in
    c.requires.given.plain k is

pub returns-then-count-budget : goal.returns-then-count-budget
returns-then-count-budget c =
    let rules : List Pattern = c.in_ok-rules.rules.items in
    let budget : ℕ = c.args.budget in
    record {
      right = λ k is.
          subst (λ (found : List Pattern). IsRight k budget (record { found = found; end = Decided }))
          (sym c.from_vec.ensures)
          (right-where_listed k budget rules
          (of-claim (λ f g ops. AreRulesOf f g ops rules) c.args.spec.now c.args.goal c.args.multi.now k is
          c.in_ok-rules.ensures));
      ended = refl;
    }

pub returns : goal.returns
returns c =
    let budget : ℕ = c.args.budget in
    record {
      right = λ k is. record {
        rules = c.requires.rules k is;
        rising = c.requires.rising;
        end = (
          c.requires.kept k is,
          c.requires.units,
          of-claim (λ f g ops. budget < trials_of f g ops) c.args.spec.now c.args.goal c.args.multi.now k is
              (λ g h. elim c.match-trials.branch [
                | in-Some+else-count-budget w ↦
                    below-count (trials_of (file c.args.spec.now) g c.args.multi.now) budget w.in-Some.count
                    (w.in-Some.ensures g h) w.if-count-budget.false
                | in_default w ↦
                    let small : c.args.budget < 2 ^ 64 = omega arith in
                    below-many (trials_of (file c.args.spec.now) g c.args.multi.now) c.args.budget
                    (sym w.in_default.is ∙ c.trials.ensures g h) small
              ]),
        );
      };
      ended = refl;
    }
