-- A formula that is true where two lists of results differ: D. Brand, Verification of large synthesized designs, ICCAD
-- 1993 ("miter").
use Rattle.std.specs.Prelude.{◌≡◌, ◌↔◌, ℕ, ◌+◌, List, [], ◌∷◌, Some, false, slice_get}
use Rattle.bv_terms.specs.declared.op.Op.TheVariants as op
use Rattle.bv_terms.specs.declared.value.Sort.{Sort}
use Rattle.bv_terms.specs.declared.value.Value.{Value}
use Rattle.bv_terms.specs.Sorts.{HaveSorts}
use Rattle.bv_terms.specs.Term.{Term, Apply, End, Then}
use Rattle.bv_terms.specs.WellSorted.{InputsFit}
use Rattle.bit_blast.specs.Clauses.{IsFormula, IsTrueAt}
use Rattle.bv_query.specs.Inputs.{IsInputOf}
use Rattle.isel_spec.specs.File.{File, Goal}
use Rattle.pattern_core.specs.declared.pattern.Pattern.{Pattern}
use Rattle.pattern_core.specs.Rule.{pattern_results, goal_results}

-- inputs of these sorts, numbered from a number on
abbrev pub inputs_from : ℕ → List Sort → List Term
inputs_from k [] = []
inputs_from k (s ∷ ss) = Apply (op.Input k s) End ∷ inputs_from (k + 1) ss

abbrev pub equal : Term → Term → Term
equal t u = Apply op.Eq (Then t (Then u End))

abbrev pub both : Term → Term → Term
both t u = Apply op.And (Then t (Then u End))

abbrev pub unequal : Term → Term → Term
unequal t u = Apply op.Not (Then (equal t u) End)

abbrev pub either : Term → Term → Term
either t u = Apply op.Or (Then t (Then u End))

abbrev pub never : Term
never = Apply (op.Bool false) End

-- the first holds, or two terms in one place of the lists differ
abbrev pub or_differ : Term → List Term → List Term → Term
or_differ t (l ∷ ls) (r ∷ rs) = or_differ (either t (unequal l r)) ls rs
or_differ t _ _ = t

-- the same as the formula, over these inputs too: each is equal to itself
abbrev pub and_inputs : Term → List Term → Term
and_inputs t [] = t
and_inputs t (i ∷ is) = and_inputs (both t (equal i i)) is

-- the results differ, over all inputs
abbrev pub miter : List Term → List Term → List Term → Term
miter inputs left right = and_inputs (or_differ never left right) inputs

-- a formula over the goal's inputs, each of its sort, that is true exactly where the pattern differs from the goal
pub record IsMiterOf (f : File) (g : Goal) (p : Pattern) (t : Term) : Type 0 where
  pub formula : IsFormula f.pointer t
  pub inputs : (number : ℕ) (s : Sort) → IsInputOf (t ∷ []) number s ↔ (slice_get g.args number ≡ Some s)
  pub fit : (env : List Value) → HaveSorts g.args env → InputsFit env t
  pub value : (env : List Value) → HaveSorts g.args env
      → IsTrueAt env t ↔ ¬ (pattern_results f p env ≡ goal_results g env)
