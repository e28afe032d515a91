-- Values of some sorts, one more.
use Rattle.std.proofs.Common.{◌≡◌, ℕ, ◌+◌, ◌<◌, List, [], ◌∷◌, ◌++◌, length, take, get_or, subst, sym}
use Rattle.std.proofs.lemmas.List.{take_more}
use Rattle.bv_terms.specs.declared.value.Sort.{Sort}
use Rattle.bv_terms.specs.declared.value.Value.{Value}
use Rattle.bv_terms.specs.Sorts.{HasSort, HaveSorts}

HaveSorts-push : (ss : List Sort) (vs : List Value) (s : Sort) (v : Value) → HaveSorts ss vs → HasSort s v
    → HaveSorts (ss ++ s ∷ []) (vs ++ v ∷ [])
HaveSorts-push [] [] s v h k = (k, tt)
HaveSorts-push [] (u ∷ vs) s v h k = absurd h
HaveSorts-push (r ∷ ss) [] s v h k = absurd h
HaveSorts-push (r ∷ ss) (u ∷ vs) s v h k = (h.0, HaveSorts-push ss vs s v h.1 k)

-- a value more, of the next sort
pub HaveSorts-more : (ss : List Sort) (vs more : List Value) (i : ℕ) (v : Value) (d : Sort) → HaveSorts (take i ss) vs
    → i < length ss → HasSort (get_or ss i d) v → more ≡ vs ++ v ∷ [] → HaveSorts (take (i + 1) ss) more
HaveSorts-more ss vs more i v d h l k e =
    subst (λ us. HaveSorts (take (i + 1) ss) us) (sym e)
    (subst (λ rs. HaveSorts rs (vs ++ v ∷ [])) (sym (take_more ss i d l))
    (HaveSorts-push (take i ss) vs (get_or ss i d) v h k))
