-- From the entries of a book to what is known of each goal, and from the answers of all goals to what they promise.
use Rattle.std.proofs.Common.{◌≡◌, ℕ, suc, ◌+◌, List, [], ◌∷◌, ◌++◌, length, false, sym, ◌∙◌, subst, arith}
use Rattle.std.proofs.Common.{Some, slice_get, ⊎_elim, refl}
use Rattle.std.specs.List.{list_any}
use Rattle.std.proofs.lemmas.List.{length-append}
use Rattle.std.proofs.lemmas.Option.{slice_get_within}
use Rattle.bv_terms.specs.Table.{IsTable}
use Rattle.isel_spec.specs.declared.spec.Spec.{Spec}
use Rattle.isel_spec.specs.File.{Goal}
use Rattle.isel_spec.specs.Spec.{file}
use Rattle.list_lemmas.proofs.Lookups.{push_cases}
use Rattle.multiset_rank.specs.Claims.{Plan, claims}
use Rattle.pattern_core.specs.declared.pattern.GoalAnswer.{GoalAnswer}
use Rattle.pattern_core.specs.Pattern.{Pairwise}
use Rattle.claim_outcome.specs.declared.outcome.Outcome.{Outcome}
use Rattle.rule_library.specs.Answer.{IsAnswerOf, AreAnswersOf}
use Rattle.rule_library.specs.Book.{IsPlanOf, IsBook, AreRight, ran_out}
use Rattle.rule_library.specs.Promise.{IsPromised}
use Rattle.rule_library.proofs.EntryLemmas.{done_at}
use Rattle.rule_library.proofs.PromiseLemmas.{IsKnown, promised}

-- lists of one length, by places
pairwise-by_places : {A B : Type 0} (R : A → B → Type 0) (xs : List A) (ys : List B) → length ys ≡ length xs
    → ((k : ℕ) (x : A) (y : B) → slice_get xs k ≡ Some x → slice_get ys k ≡ Some y → R x y) → Pairwise R xs ys
pairwise-by_places R [] [] e h = tt
pairwise-by_places R [] (y ∷ ys) e h = absurd (omega (arith, e))
pairwise-by_places R (x ∷ xs) [] e h = absurd (omega (arith, e))
pairwise-by_places R (x ∷ xs) (y ∷ ys) e h =
    (h 0 x y refl refl, pairwise-by_places R xs ys (omega (arith, e)) (λ k a b i j. h (suc k) a b i j))

-- an answer for one more goal
pub answers-more : (p : Plan) (book : List (ℕ × Outcome)) (goal : ℕ) (answers added : List GoalAnswer) (a : GoalAnswer)
    → added ≡ answers ++ a ∷ [] → length answers ≡ goal → IsAnswerOf p book goal a
    → ((k : ℕ) (b : GoalAnswer) → slice_get answers k ≡ Some b → IsAnswerOf p book k b)
    → (length added ≡ goal + 1) × ((k : ℕ) (b : GoalAnswer) → slice_get added k ≡ Some b → IsAnswerOf p book k b)
answers-more p book goal answers added a all size is each = (
  subst (λ (xs : List GoalAnswer). length xs ≡ goal + 1) (sym all)
      (let long : length (answers ++ a ∷ []) ≡ length answers + 1 = length-append answers (a ∷ []) in
      omega (arith, long, size)),
  λ k b at.
      ⊎_elim (λ early. each k b early.1)
      (λ last. subst (λ n. IsAnswerOf p book n b) (sym (last.0 ∙ size)) (subst (IsAnswerOf p book goal) last.1 is))
      (push_cases answers a k b (subst (λ (xs : List GoalAnswer). slice_get xs k ≡ Some b) all at)),
)

-- what the answers of all goals promise
pub all-promised : (s : Spec) (p : Plan) (budget : ℕ) (book : List (ℕ × Outcome)) (answers : List GoalAnswer)
    → IsTable s.terms → IsPlanOf (file s) p → IsBook (length (claims p)) book
    → list_any (λ (e : ℕ × Outcome). ran_out e.1.end) book ≡ false → AreRight (file s) p budget book
    → AreAnswersOf p book answers → Pairwise (IsPromised (file s) p.bound budget) (file s).goals answers
all-promised s p budget book answers table plan whole done right are =
    pairwise-by_places (IsPromised (file s) p.bound budget) (file s).goals answers (are.as_many ∙ plan.goals)
    (λ k g a i j. promised s p budget book k g (known k g i) a (are.each k a j))
  where
    known : (k : ℕ) (g : Goal) → slice_get (file s).goals k ≡ Some g → IsKnown s p budget book k g
    known k g i = record {
      table = table;
      goal = i;
      below =
          (let l = slice_get_within (file s).goals k g i in
          let e = plan.goals in omega (arith, l, e));
      plan = plan;
      book_of = whole;
      right = λ ops o e. right k g ops o i e;
      done = λ ops o e. done_at book done e.place e.number o e.written;
    }
