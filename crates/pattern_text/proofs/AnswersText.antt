-- The text of the first answers, and of one more.
use Rattle.std.proofs.Common.{◌≡◌, ℕ, zero, suc, ◌+◌, ◌<◌, List, [], ◌∷◌, ◌++◌, length, take, get_or, slice_get, ap}
use Rattle.std.proofs.Common.{◌∙◌, sym, append_assoc, append-nil, add-one, arith}
use Rattle.isel_spec.specs.File.{File, Goal}
use Rattle.pattern_core.specs.declared.pattern.GoalAnswer.{GoalAnswer}
use Rattle.pattern_text.specs.Text.{answers_text, answer_text, goal_text}

answers_text-suc : (f : File) (gs : List Goal) (as' : List GoalAnswer) (i : ℕ) (d : GoalAnswer) → i < length gs
    → i < length as'
    → answers_text f (take (suc i) gs) (take (suc i) as') ≡ answers_text f (take i gs) (take i as')
    ++ goal_text f (slice_get gs i) (get_or as' i d)
answers_text-suc f [] as' i d h k = absurd (omega (arith, h))
answers_text-suc f (g ∷ gs) [] i d h k = absurd (omega (arith, k))
answers_text-suc f (g ∷ gs) (a ∷ as') zero d h k = append-nil (answer_text f g.name a)
answers_text-suc f (g ∷ gs) (a ∷ as') (suc i) d h k =
    ap (λ t. answer_text f g.name a ++ t) (answers_text-suc f gs as' i d (omega (arith, h)) (omega (arith, k)))
    ∙ sym (append_assoc (answer_text f g.name a) (answers_text f (take i gs) (take i as'))
    (goal_text f (slice_get gs i) (get_or as' i d)))

pub answers_text_more : (f : File) (gs : List Goal) (as' : List GoalAnswer) (i : ℕ) (d : GoalAnswer)
    (start so new : List ℕ)
    → i < length gs → i < length as' → so ≡ start ++ answers_text f (take i gs) (take i as')
    → new ≡ so ++ goal_text f (slice_get gs i) (get_or as' i d)
    → new ≡ start ++ answers_text f (take (i + 1) gs) (take (i + 1) as')
answers_text_more f gs as' i d start so new h k e n =
    n ∙ ap (λ t. t ++ goal_text f (slice_get gs i) (get_or as' i d)) e
    ∙ append_assoc start (answers_text f (take i gs) (take i as')) (goal_text f (slice_get gs i) (get_or as' i d))
    ∙ ap (λ t. start ++ t) (rw add-one (sym (answers_text-suc f gs as' i d h k)))
