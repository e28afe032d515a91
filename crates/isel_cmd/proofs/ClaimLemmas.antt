-- Claims of a file without memory.
use Rattle.std.proofs.Common.{◌≡◌, ℕ, List, Some, slice_get, inl, inr, subst, sym, ◌∙◌, refl, arith}
use Rattle.std.proofs.lemmas.List.{length-map}
use Rattle.list_lemmas.proofs.Members.{Contains-from_In, In-slice_get}
use Rattle.isel_spec.specs.declared.spec.Spec.{Spec}
use Rattle.isel_spec.specs.File.{File, Goal, goal as goal_of, operation as operation_of}
use Rattle.isel_spec.specs.Spec.{file}
use Rattle.multiset_rank.specs.Claims.{Plan, IsInPlan}
use Rattle.multiset_rank.specs.Multisets.{AreBelow}
use Rattle.pattern_core.specs.Claim.{Claim, IsClaim}
use Rattle.pattern_core.specs.Rule.{HasNoMemory}
use Rattle.loc_encode.specs.Given.{IsGiven}
use Rattle.rule_library.specs.Book.{IsPlanOf}
use Rattle.isel_cmd.specs.Refusal.{HasMemory}

goal_without_memory : (f : File) (g : Goal) (place : ℕ) → (HasMemory f → ⊥) → slice_get f.goals place ≡ Some g
    → HasNoMemory f g
goal_without_memory f g place none there = record {
  ops = λ o at memory. none (inl (o, at, memory));
  args = λ memory. none (inr (g, Contains-from_In f.goals g (In-slice_get f.goals place g there), memory));
}

claim_without_memory : (s : Spec) (place : ℕ) (ops : List ℕ) (c : Claim) → (HasMemory (file s) → ⊥)
    → IsClaim s place ops c → HasNoMemory c.file c.goal
claim_without_memory s place ops c none is =
    subst (λ (f : File). HasNoMemory f c.goal) (sym is.of_file)
    (goal_without_memory (file s) c.goal place none is.of_goal)

-- what is needed to settle a claim of the plan
pub given_claim : (s : Spec) (p : Plan) (place : ℕ) (ops : List ℕ) → (HasMemory (file s) → ⊥) → IsPlanOf (file s) p
    → IsInPlan p place ops → IsGiven s place ops
given_claim s p place ops none of_file inside = record {
  place = (let size = length-map s.goals (goal_of s.terms) in
      let same = of_file.goals in
      let below = inside.goal_below in omega (arith, size, same, below));
  there = subst (λ (n : ℕ). AreBelow n ops) (of_file.kinds ∙ length-map s.ops (operation_of s.terms))
      inside.kinds_below;
  plain = λ c is. claim_without_memory s place ops c none is;
}

-- the claim of a goal in a place of the file
pub claim_there : (s : Spec) (place : ℕ) (ops : List ℕ) (g : Goal) → slice_get (file s).goals place ≡ Some g
    → IsClaim s place ops (record { file = file s; goal = g; ops = ops })
claim_there s place ops g there = record { of_file = refl; of_goal = there; of_ops = refl }
