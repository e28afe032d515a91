-- Nodes made one after the other for the signed divisions stand for the terms that these are written out as.
use Rattle.std.proofs.Common.{◌≡◌, ℕ, ◌<◌, Bool, true, false, [], ◌∷◌, length, IsSome, sym, ap, ◌∙◌, subst}
use Rattle.bv_terms.specs.declared.op.Op.{Op}
use Rattle.bv_terms.specs.declared.op.Op.TheVariants as op
use Rattle.bv_terms.specs.declared.op.TermId.{TermId}
use Rattle.bv_terms.specs.Term.{Term}
use Rattle.bv_terms.specs.WellSorted.{sort_of}
use Rattle.bv_terms.specs.Table.{Table, term_at, Extends}
use Rattle.term_text.specs.Written.{on_two, is_negative, if_negative, perhaps_negated}
use Rattle.term_text.specs.Build.{IsWellSorted, StandsFor}
use Rattle.term_text.proofs.BuildLemmas.{Extends-further, term_at-kept, StandsFor-kept, IsWellSorted-kept}
use Rattle.term_text.proofs.BuildLemmas.{parts-sorted, three-same}

-- a term that is a well-sorted one of an earlier table
pub sorted-later : (a b : Table) → Extends a b → (t u : Term) → IsWellSorted a t → u ≡ t → IsWellSorted b u
sorted-later a b h t u sorted same = subst (IsWellSorted b) (sym same) (IsWellSorted-kept a b h t sorted)

pub on-two : (f : Term → Term → Term) (t t' u u' : Term) → t ≡ t' → u ≡ u' → f t u ≡ f t' u'
on-two f t t' u u' h k = ap (λ t. f t u) h ∙ ap (f t') k

pub on-three : (f : Term → Term → Term → Term) (t t' u u' v v' : Term) → t ≡ t' → u ≡ u' → v ≡ v'
    → f t u v ≡ f t' u' v'
on-three f t t' u u' v v' h k l = ap (λ t. f t u v) h ∙ on-two (f t') u u' v v' k l

-- two nodes of an earlier table
pub two-kept : (f : Term → Term → Term) (a b : Table) → Extends a b → (x y : TermId) → x.0 < length a.nodes
    → y.0 < length a.nodes → f (term_at b x) (term_at b y) ≡ f (term_at a x) (term_at a y)
two-kept f a b h x y i j = on-two f _ _ _ _ (term_at-kept a b h x i) (term_at-kept a b h y j)

pub if-same : (w : ℕ) (t t' u u' v v' : Term) → t ≡ t' → u ≡ u' → v ≡ v' → if_negative w t u v ≡ if_negative w t' u' v'
if-same w t t' u u' v v' h k l =
    three-same op.Ite (is_negative w t) (is_negative w t') u u' v v' (ap (is_negative w) h) k l

-- a choice by the sign of an early node between a node made later and one made after that
pub choice-made : (a m d : Table) → Extends a m → Extends m d → (w : ℕ) (at below above : TermId)
    → at.0 < length a.nodes → (t u t' u' : Term) → StandsFor m below t → t ≡ t' → StandsFor d above u → u ≡ u'
    → if_negative w (term_at d at) (term_at d below) (term_at d above) ≡ if_negative w (term_at a at) t' u'
choice-made a m d h k w at below above within t u t' u' first e second e' =
    if-same w _ _ _ _ _ _ (term_at-kept a d (Extends-further a m d h k) at within)
    ((StandsFor-kept m d k below t first).term ∙ e) (second.term ∙ e')

-- the operation is well-sorted where it is negated too
pub operation-sorted : (p : ℕ) (negates : Bool) (o : Op) (t u : Term)
    → IsSome (sort_of p (perhaps_negated negates o t u)) → IsSome (sort_of p (on_two o t u))
operation-sorted p true o t u h = (parts-sorted p op.BvNeg (on_two o t u ∷ []) h).0
operation-sorted p false o t u h = h
