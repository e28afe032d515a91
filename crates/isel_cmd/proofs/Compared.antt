-- Words that are compared one by one.
use Rattle.std.proofs.Common.{◌≡◌, ◌∙◌, ℕ, ◌^◌, ◌≤◌, ◌<◌, Bool, true, false, not, List, [], ◌∷◌, length, get_or, map}
use Rattle.std.proofs.Common.{eqb, refl, sym, arith}
use Rattle.std.specs.Cmp.Lexicographic.{pointwise}
use Rattle.std.specs.Fmt.{decimal}
use Rattle.std.proofs.lemmas.Slice.Eq.{slice_eq-Decides}
use Rattle.std.proofs.lemmas.Bool.Decides.{Decides-eqb}
use Rattle.isel_cmd.specs.Words.{Task, Synth, IsTask}

not_false : (b : Bool) → false ≡ not b → b ≡ true
not_false true h = refl
not_false false h = cc

-- a test that two words differ, which fails
pub same_word : (a b : List ℕ) → false ≡ not (pointwise eqb a b) → a ≡ b
same_word a b h = (slice_eq-Decides Decides-eqb a b (pointwise eqb a b) refl).0 (not_false (pointwise eqb a b) h)

-- the views of six elements
pub six_of : {A B : Type 0} (g : A → B) (xs : List A) (a b c d e f : A) → 6 ≤ length xs → length xs < 7
    → a ≡ get_or xs 0 a → b ≡ get_or xs 1 b → c ≡ get_or xs 2 c → d ≡ get_or xs 3 d → e ≡ get_or xs 4 e
    → f ≡ get_or xs 5 f → map g xs ≡ g a ∷ g b ∷ g c ∷ g d ∷ g e ∷ g f ∷ []
six_of g [] a b c d e f low high p q r s t u = absurd (omega (arith, low))
six_of g (w ∷ []) a b c d e f low high p q r s t u = absurd (omega (arith, low))
six_of g (w ∷ x ∷ []) a b c d e f low high p q r s t u = absurd (omega (arith, low))
six_of g (w ∷ x ∷ y ∷ []) a b c d e f low high p q r s t u = absurd (omega (arith, low))
six_of g (w ∷ x ∷ y ∷ z ∷ []) a b c d e f low high p q r s t u = absurd (omega (arith, low))
six_of g (w ∷ x ∷ y ∷ z ∷ v ∷ []) a b c d e f low high p q r s t u = absurd (omega (arith, low))
six_of g (w ∷ x ∷ y ∷ z ∷ v ∷ o ∷ []) a b c d e f low high p q r s t u = cc
six_of g (w ∷ x ∷ y ∷ z ∷ v ∷ o ∷ n ∷ vs) a b c d e f low high p q r s t u = absurd (omega (arith, high))

-- six words, of which five are compared
pub six_words : (ws : List (List ℕ)) (a b c d e f p q r s t u command first bound second budget : List ℕ)
    → ws ≡ a ∷ b ∷ c ∷ d ∷ e ∷ f ∷ [] → p ≡ a → q ≡ b → r ≡ c → s ≡ d → t ≡ e → u ≡ f → p ≡ command → r ≡ first
    → s ≡ bound → t ≡ second → u ≡ budget → ws ≡ command ∷ q ∷ first ∷ bound ∷ second ∷ budget ∷ []
six_words ws a b c d e f p q r s t u command first bound second budget is pa qb rc sd te uf pc rf sb ts ub = cc

-- six words of which the fourth says no bound, or the sixth no budget, ask for nothing
pub without_bound : (ws : List (List ℕ)) (a b c d e f word : List ℕ) → ws ≡ a ∷ b ∷ c ∷ d ∷ e ∷ f ∷ [] → word ≡ d
    → ((bound : ℕ) → bound ≤ 6 → word ≡ decimal bound → ⊥) → (task : Task) → IsTask ws task → ⊥
without_bound ws a b c d e f word is same none (Synth name bound budget) asked =
    let both = sym is ∙ asked.spelled in
    let said : d ≡ decimal bound = cc in
    none bound asked.within (same ∙ said)

pub without_budget : (ws : List (List ℕ)) (a b c d e f word : List ℕ) → ws ≡ a ∷ b ∷ c ∷ d ∷ e ∷ f ∷ [] → word ≡ f
    → ((budget : ℕ) → 1 ≤ budget → budget ≤ 2 ^ 32 → word ≡ decimal budget → ⊥) → (task : Task) → IsTask ws task → ⊥
without_budget ws a b c d e f word is same none (Synth name bound budget) asked =
    let both = sym is ∙ asked.spelled in
    let said : f ≡ decimal budget = cc in
    none budget asked.some asked.most (same ∙ said)
