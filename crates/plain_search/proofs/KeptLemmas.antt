-- What is kept of a list: it stands there and is to be kept, all of it is there, and in its order.
use Rattle.std.proofs.Common.{List, [], ◌∷◌, sym, subst, inl, inr}
use Rattle.list_lemmas.proofs.Members.{In}
use Rattle.list_lemmas.proofs.Orders.{IsOrdered}
use Rattle.plain_search.specs.Patterns.{AreKept}

pub In_of_kept : {A : Type 0} (Keep : A → Type 0) (xs ks : List A) → AreKept Keep xs ks → (z : A) → In ks z
    → In xs z × Keep z
In_of_kept Keep [] ks kept z i = absurd (subst (λ zs. In zs z) kept i)
In_of_kept {A} Keep (x ∷ xs) ks (inl k) z i =
    elim (subst (λ (zs : List A). In zs z) k.1.1 i) [
      | inl e ↦ (inl e, subst Keep e k.0)
      | inr j ↦ (let r = In_of_kept Keep xs k.1.0 k.1.2 z j in (inr r.0, r.1))
    ]
In_of_kept Keep (x ∷ xs) ks (inr n) z i = let r = In_of_kept Keep xs ks n.1 z i in (inr r.0, r.1)

pub In-kept : {A : Type 0} (Keep : A → Type 0) (xs ks : List A) → AreKept Keep xs ks → (z : A) → In xs z → Keep z
    → In ks z
In-kept Keep [] ks kept z i keep = absurd i
In-kept {A} Keep (x ∷ xs) ks (inl k) z (inl e) keep = subst (λ (zs : List A). In zs z) (sym k.1.1) (inl e)
In-kept {A} Keep (x ∷ xs) ks (inl k) z (inr i) keep =
    subst (λ (zs : List A). In zs z) (sym k.1.1) (inr (In-kept Keep xs k.1.0 k.1.2 z i keep))
In-kept Keep (x ∷ xs) ks (inr n) z (inl e) keep = absurd (n.0 (subst Keep (sym e) keep))
In-kept Keep (x ∷ xs) ks (inr n) z (inr i) keep = In-kept Keep xs ks n.1 z i keep

pub IsOrdered-kept : {A : Type 0} (R : A → A → Type 0) (Keep : A → Type 0) (xs ks : List A) → AreKept Keep xs ks
    → IsOrdered R xs → IsOrdered R ks
IsOrdered-kept R Keep [] ks kept h = subst (IsOrdered R) (sym kept) tt
IsOrdered-kept {A} R Keep (x ∷ xs) ks (inl k) h =
    let rest : List A = k.1.0 in
    let all : IsOrdered R (x ∷ rest) =
    (λ z i. h.0 z (In_of_kept Keep xs rest k.1.2 z i).0, IsOrdered-kept R Keep xs rest k.1.2 h.1) in
    subst (IsOrdered R) (sym k.1.1) all
IsOrdered-kept R Keep (x ∷ xs) ks (inr n) h = IsOrdered-kept R Keep xs ks n.1 h.1
