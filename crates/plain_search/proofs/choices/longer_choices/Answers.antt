use Rattle.std.proofs.Common.{◌≡◌, ℕ, ◌+◌, ◌<◌, List, ◌∷◌, ◌++◌, length, map, drop, get_or, sym, ap, ◌∙◌, append_assoc}
use Rattle.std.specs.List.{flat_map}
use Rattle.std.proofs.lemmas.List.{at_drop_more}
use Rattle.plain_search.proofs.choices.longer_choices.Goals as goal

longer-more : {A : Type 0} (shorter : List (List A)) (firsts : List A) (i : ℕ) (x : A) (now after whole : List (List A))
    → i < length firsts → x ≡ get_or firsts i x → after ≡ now ++ map (λ ys. x ∷ ys) shorter
    → now ++ flat_map (λ y. map (λ ys. y ∷ ys) shorter) (drop i firsts) ≡ whole
    → after ++ flat_map (λ y. map (λ ys. y ∷ ys) shorter) (drop (i + 1) firsts) ≡ whole
longer-more {A} shorter firsts i x now after whole l e new h =
    let longer : A → List (List A) = λ y. map (λ ys. y ∷ ys) shorter in
    let rest = flat_map longer (drop (i + 1) firsts) in
    ap (λ zs. zs ++ rest) new ∙ append_assoc now (longer x) rest
    ∙ ap (λ y. now ++ (longer y ++ rest)) e
    ∙ ap (λ zs. now ++ zs) (sym (at_drop_more (flat_map longer) firsts i x l)) ∙ h

pub loop-first-preserved : goal.loop-first-preserved
loop-first-preserved g c =
    longer-more c.args.shorter.now c.args.firsts.now c.loop-first.first-index _ c.loop-first.found.items _ _
    c.loop-first-test.true c.first-item.is c.in_ok-add_longer.ensures c.loop-first.invariant
