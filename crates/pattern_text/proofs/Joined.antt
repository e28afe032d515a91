-- Words joined by single spaces, one more at the end.
use Rattle.std.proofs.Common.{◌≡◌, ℕ, suc, ◌+◌, ◌<◌, ◌≢◌, zero, List, [], ◌∷◌, ◌++◌, length, map, take, get_or, refl}
use Rattle.std.proofs.Common.{ap, ◌∙◌, sym, append_assoc, arith}
use Rattle.std.proofs.lemmas.List.{take_more, length-take-le, map-append, length-map}
use Rattle.pattern_text.specs.Text.{joined, gap}

-- the first word stands alone, and each further one after a space
joined-push : (ws : List (List ℕ)) (w v : List ℕ) → joined ((w ∷ ws) ++ v ∷ []) ≡ joined (w ∷ ws) ++ 32 ∷ v
joined-push [] w v = refl
joined-push (x ∷ ws) w v =
    ap (λ rest. w ++ 32 ∷ rest) (joined-push ws x v) ∙ sym (append_assoc w (32 ∷ joined (x ∷ ws)) (32 ∷ v))

joined-at : (ws : List (List ℕ)) (v : List ℕ) (i : ℕ) → length ws ≡ i
    → joined (ws ++ v ∷ []) ≡ joined ws ++ (gap i ++ v)
joined-at [] v i e = rw (← e) refl
joined-at (w ∷ ws) v i e = rw (← e) (joined-push ws w v)

-- the words of the first i elements, and of one more
pub joined_more : {A : Type 0} (f : A → List ℕ) (xs : List A) (i : ℕ) (d : A) → i < length xs
    → joined (map f (take (i + 1) xs)) ≡ joined (map f (take i xs)) ++ (gap i ++ f (get_or xs i d))
joined_more f xs i d h =
    ap (λ ys. joined (map f ys)) (take_more xs i d h) ∙ ap joined (map-append f (take i xs) (get_or xs i d ∷ []))
    ∙ joined-at (map f (take i xs)) (f (get_or xs i d)) i (length-map (take i xs) f ∙ length-take-le i xs (omega arith))

pub gap_after : (n : ℕ) → n ≢ 0 → gap n ≡ 32 ∷ []
gap_after zero h = absurd (h refl)
gap_after (suc n) h = refl

-- an iteration of a loop that adds them to a text
pub appended_more : {A : Type 0} (f : A → List ℕ) (xs : List A) (i : ℕ) (d : A) (start so mid new : List ℕ)
    → i < length xs
    → so ≡ start ++ joined (map f (take i xs)) → mid ≡ so ++ gap i → new ≡ mid ++ f (get_or xs i d)
    → new ≡ start ++ joined (map f (take (i + 1) xs))
appended_more f xs i d start so mid new h e m n =
    n ∙ ap (λ t. t ++ f (get_or xs i d)) (m ∙ ap (λ t. t ++ gap i) e)
    ∙ append_assoc (start ++ joined (map f (take i xs))) (gap i) (f (get_or xs i d))
    ∙ append_assoc start (joined (map f (take i xs))) (gap i ++ f (get_or xs i d))
    ∙ ap (λ t. start ++ t) (sym (joined_more f xs i d h))
