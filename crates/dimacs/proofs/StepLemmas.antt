-- The steps of a chain, two words at a time.
use Rattle.std.proofs.Common.{◌≡◌, ℕ, ◌+◌, ◌<◌, List, [], ◌∷◌, ◌++◌, length, get_or, drop, map, refl, sym, ap, ◌∙◌}
use Rattle.std.proofs.Common.{Option, Some, None, add-one, append_assoc, length-drop, arith, Bor}
use Rattle.std.proofs.Math.Seq.{drop-cons}
use Rattle.std.specs.Option.{option_map}
use Rattle.cnf_core.specs.declared.clause.Lit.{Lit}
use Rattle.dimacs.specs.Line.{number, literal, steps}

one : (v : ℕ) (ws : List (Bor (List ℕ))) → length ws ≡ 1 → steps v (map (λ w. w.now) ws) ≡ None
one v [] h = absurd (omega arith)
one v (w ∷ []) h = refl
one v (w ∷ x ∷ ws) h = absurd (omega arith)

-- a word on its own is no step
pub one_left : (v : ℕ) (ws : List (Bor (List ℕ))) (i : ℕ) → i + 1 ≡ length ws
    → steps v (map (λ w. w.now) (drop i ws)) ≡ None
one_left v ws i h = one v (drop i ws) (omega (arith, length-drop i ws))

more : (ws : List (Bor (List ℕ))) (i : ℕ) (d : Bor (List ℕ)) → i < length ws
    → drop i ws ≡ get_or ws i d ∷ drop (i + 1) ws
more ws i d h = rw (add-one, drop-cons ws i d) refl

two : (ws : List (Bor (List ℕ))) (i : ℕ) (d : Bor (List ℕ)) → i + 1 < length ws
    → drop i ws ≡ get_or ws i d ∷ get_or ws (i + 1) d ∷ drop (i + 2) ws
two ws i d h =
    let e : i + 1 + 1 ≡ i + 2 = omega arith in
    more ws i d (omega arith)
    ∙ ap (λ xs. get_or ws i d ∷ xs) (more ws (i + 1) d h ∙ ap (λ n. get_or ws (i + 1) d ∷ drop n ws) e)

pub no_literal : (v : ℕ) (ws : List (Bor (List ℕ))) (i : ℕ) (d : Bor (List ℕ)) → i + 1 < length ws
    → literal v (get_or ws i d).now ≡ None → steps v (map (λ w. w.now) (drop i ws)) ≡ None
no_literal v ws i d h none = rw (two ws i d h, none) refl

with_first : (l : Lit) (n : ℕ) (o : Option (List (Lit × ℕ))) (xs new : List (Lit × ℕ)) → new ≡ xs ++ (l, n) ∷ []
    → option_map (λ more. xs ++ more) (option_map (λ more. (l, n) ∷ more) o) ≡ option_map (λ more. new ++ more) o
with_first l n None xs new e = refl
with_first l n (Some ys) xs new e = rw e (ap Some (sym (append_assoc xs ((l, n) ∷ []) ys)))

-- a step comes after those so far
pub one_step : (v : ℕ) (ws : List (Bor (List ℕ))) (i : ℕ) (d : Bor (List ℕ)) (l : Lit) (n : ℕ)
    (so_far new : List (Lit × ℕ)) → i + 1 < length ws → literal v (get_or ws i d).now ≡ Some l
    → number (get_or ws (i + 1) d).now ≡ Some n
    → new ≡ so_far ++ (l, n) ∷ []
    → option_map (λ more. so_far ++ more) (steps v (map (λ w. w.now) (drop i ws)))
    ≡ option_map (λ more. new ++ more) (steps v (map (λ w. w.now) (drop (i + 2) ws)))
one_step v ws i d l n so_far new h is are e =
    rw (two ws i d h, is, are) (with_first l n (steps v (map (λ w. w.now) (drop (i + 2) ws))) so_far new e)
