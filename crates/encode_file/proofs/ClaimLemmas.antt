-- The inputs of a goal of a file, for the claims that are of it.
use Rattle.std.proofs.Common.{◌≡◌, ℕ, List, Some, refl, sym, subst, slice_get, Contains}
use Rattle.bv_terms.specs.declared.value.Sort.{Sort}
use Rattle.bv_terms.specs.declared.value.Sort.TheVariants as sort
use Rattle.isel_spec.specs.declared.definitions.GoalDef.{GoalDef}
use Rattle.isel_spec.specs.declared.spec.Spec.{Spec}
use Rattle.isel_spec.specs.File.{goal, sorts_in}
use Rattle.isel_spec.specs.Spec.{file}
use Rattle.isel_spec.proofs.SpecLemmas.{goal_there}
use Rattle.pattern_core.specs.Claim.{Claim, IsClaim}
use Rattle.loc_encode.specs.Given.{IsGiven}

-- none of the goal's inputs is a memory
pub no_memory : (s : Spec) (k : ℕ) (ops : List ℕ) (name : List ℕ) (d : GoalDef) (sorts : List Sort)
    → slice_get s.goals k ≡ Some (name, d) → IsGiven s k ops → sorts ≡ sorts_in d.args → ¬ Contains sorts sort.Mem
no_memory s k ops name d sorts at given e =
    let c : Claim = record { file = file s; goal = goal s.terms (name, d); ops = ops } in
    let is : IsClaim s k ops c = record { of_file = refl; of_goal = goal_there s k name d at; of_ops = refl } in
    subst (λ xs. ¬ Contains xs sort.Mem) (sym e) (given.plain c is).args
