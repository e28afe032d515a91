-- An enumeration settles a claim.
use Rattle.std.proofs.Common.{ℕ, List}
use Rattle.std.proofs.lemmas.List.Elements.{All-contains_itself}
use Rattle.isel_spec.specs.File.{File, Goal}
use Rattle.pattern_core.specs.declared.pattern.Pattern.{Pattern}
use Rattle.plain_search.specs.Rules.{AreRulesOf}
use Rattle.claim_outcome.specs.declared.outcome.End.TheVariants.{Decided}
use Rattle.claim_outcome.specs.Outcome.{IsRight}

pub IsRight-from_rules : (f : File) (g : Goal) (ops : List ℕ) (budget : ℕ) (found : List Pattern)
    → AreRulesOf f g ops found
    → IsRight (record { file = f; goal = g; ops = ops }) budget (record { found = found; end = Decided })
IsRight-from_rules f g ops budget found are = record {
  rules = λ k d l. let h = (are.members _).0 (All-contains_itself found k d l) in
      record { pattern = record { well_formed = h.0; ops = h.2 }; canonical = h.1; rule = h.3 };
  rising = are.rising;
  end = λ p h. (are.members p).1 (h.pattern.well_formed, h.canonical, h.pattern.ops, h.rule);
}
