-- Membership by recursion, and lists whose elements stand in an order.
use Rattle.std.proofs.Common.{◌≡◌, List, [], ◌∷◌}
use Rattle.std.proofs.Common.{inl, refl}
use Rattle.std.specs.declared.cmp.Ordering.{Ordering}
use Rattle.std.specs.declared.cmp.Ordering.TheVariants.{Less}
use Rattle.pattern_core.specs.Order.{IsRising}
use Rattle.list_lemmas.proofs.Orders.{IsOrdered}

pub IsRising-from_ordered : {X : Type 0} (cmp : X → X → Ordering) (xs : List X) → IsOrdered (λ a b. cmp a b ≡ Less) xs
    → IsRising cmp xs
IsRising-from_ordered cmp [] h = tt
IsRising-from_ordered cmp (x ∷ []) h = tt
IsRising-from_ordered cmp (x ∷ (y ∷ ys)) h = (h.0 y (inl refl), IsRising-from_ordered cmp (y ∷ ys) h.1)
