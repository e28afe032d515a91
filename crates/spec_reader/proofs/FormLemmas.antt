-- Lists that are too short or too long for a form.
use Rattle.std.proofs.Common.{◌≡◌, ℕ, List, [], ◌∷◌, length, map, get_or, None, refl, arith}
use Rattle.sexp_read.specs.Tree.{Tree}
use Rattle.spec_reader.specs.Form.{garg_from, op_of, op_from, goal_of, goal_from, head_from}

pub no-garg : (tree : ℕ → Tree) (items : List ℕ) → (length items ≡ 3 → ⊥) → None ≡ garg_from (map tree items)
no-garg tree [] other = refl
no-garg tree (a ∷ []) other = refl
no-garg tree (a ∷ b ∷ []) other = refl
no-garg tree (a ∷ b ∷ c ∷ []) other = absurd (other refl)
no-garg tree (a ∷ b ∷ c ∷ d ∷ es) other = refl

pub no-head : (tree : ℕ → Tree) (items : List ℕ) → (length items ≡ 3 → ⊥) → None ≡ head_from (map tree items)
no-head tree [] other = refl
no-head tree (a ∷ []) other = refl
no-head tree (a ∷ b ∷ []) other = refl
no-head tree (a ∷ b ∷ c ∷ []) other = absurd (other refl)
no-head tree (a ∷ b ∷ c ∷ d ∷ es) other = refl

pub op-of-four : (tree : ℕ → Tree) (items : List ℕ) (d e f g : ℕ) → length items ≡ 4
    → op_of (tree (get_or items 0 d)) (tree (get_or items 1 e)) (tree (get_or items 2 f)) (tree (get_or items 3 g))
    ≡ op_from (map tree items)
op-of-four tree [] d e f g four = absurd (omega (arith, four))
op-of-four tree (i ∷ []) d e f g four = absurd (omega (arith, four))
op-of-four tree (i ∷ j ∷ []) d e f g four = absurd (omega (arith, four))
op-of-four tree (i ∷ j ∷ k ∷ []) d e f g four = absurd (omega (arith, four))
op-of-four tree (i ∷ j ∷ k ∷ l ∷ []) d e f g four = refl
op-of-four tree (i ∷ j ∷ k ∷ l ∷ m ∷ ms) d e f g four = absurd (omega (arith, four))

pub no-op : (tree : ℕ → Tree) (items : List ℕ) → (length items ≡ 4 → ⊥) → None ≡ op_from (map tree items)
no-op tree [] other = refl
no-op tree (a ∷ []) other = refl
no-op tree (a ∷ b ∷ []) other = refl
no-op tree (a ∷ b ∷ c ∷ []) other = refl
no-op tree (a ∷ b ∷ c ∷ d ∷ []) other = absurd (other refl)
no-op tree (a ∷ b ∷ c ∷ d ∷ e ∷ es) other = refl

pub goal-of-four : (tree : ℕ → Tree) (items : List ℕ) (d e f g : ℕ) → length items ≡ 4
    → goal_of (tree (get_or items 0 d)) (tree (get_or items 1 e)) (tree (get_or items 2 f)) (tree (get_or items 3 g))
    ≡ goal_from (map tree items)
goal-of-four tree [] d e f g four = absurd (omega (arith, four))
goal-of-four tree (i ∷ []) d e f g four = absurd (omega (arith, four))
goal-of-four tree (i ∷ j ∷ []) d e f g four = absurd (omega (arith, four))
goal-of-four tree (i ∷ j ∷ k ∷ []) d e f g four = absurd (omega (arith, four))
goal-of-four tree (i ∷ j ∷ k ∷ l ∷ []) d e f g four = refl
goal-of-four tree (i ∷ j ∷ k ∷ l ∷ m ∷ ms) d e f g four = absurd (omega (arith, four))

pub no-goal : (tree : ℕ → Tree) (items : List ℕ) → (length items ≡ 4 → ⊥) → None ≡ goal_from (map tree items)
no-goal tree [] other = refl
no-goal tree (a ∷ []) other = refl
no-goal tree (a ∷ b ∷ []) other = refl
no-goal tree (a ∷ b ∷ c ∷ []) other = refl
no-goal tree (a ∷ b ∷ c ∷ d ∷ []) other = absurd (other refl)
no-goal tree (a ∷ b ∷ c ∷ d ∷ e ∷ es) other = refl
