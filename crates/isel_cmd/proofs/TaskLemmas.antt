-- Words are of one task at most.
use Rattle.std.proofs.Common.{◌≡◌, ℕ, ◌^◌, ◌≤◌, ◌<◌, List, sym, ◌∙◌, ap, refl, arith}
use Rattle.std.specs.Fmt.{decimal}
use Rattle.std.proofs.lemmas.Fmt.{decimal_injective}
use Rattle.isel_cmd.specs.Words.{Task, Synth, IsSynth, IsTask, file_of, bound_of, budget_of}

-- numbers that are said by the same word
same_number : (a b most : ℕ) → most < 2 ^ 64 → a ≤ most → b ≤ most → decimal a ≡ decimal b → a ≡ b
same_number a b most small h k e = decimal_injective a b (omega (arith, small, h)) (omega (arith, small, k)) e

same_parts : (name other : List ℕ) (bound limit budget units : ℕ) → name ≡ other → bound ≡ limit → budget ≡ units
    → Synth name bound budget ≡ Synth other limit units
same_parts name other bound limit budget units e b u =
    ap (λ (n : List ℕ). Synth n bound budget) e ∙ ap (λ (n : ℕ). Synth other n budget) b ∙ ap (Synth other limit) u

same_words : (words : List (List ℕ)) (name other : List ℕ) (bound limit budget units : ℕ)
    → IsSynth words name bound budget → IsSynth words other limit units
    → Synth name bound budget ≡ Synth other limit units
same_words words name other bound limit budget units is are =
    let e = sym is.spelled ∙ are.spelled in
    let names : name ≡ other = cc in
    let bounds : decimal bound ≡ decimal limit = cc in
    let budgets : decimal budget ≡ decimal units = cc in
    same_parts name other bound limit budget units names
    (same_number bound limit 6 (omega arith) is.within are.within bounds)
    (same_number budget units (2 ^ 32) (omega arith) is.most are.most budgets)

pub same_task : (words : List (List ℕ)) (a b : Task) → IsTask words a → IsTask words b → a ≡ b
same_task words (Synth name bound budget) (Synth other limit units) is are =
    same_words words name other bound limit budget units is are

task_is : (task : Task) → Synth (file_of task) (bound_of task) (budget_of task) ≡ task
task_is (Synth name bound budget) = refl

-- the task that words ask for is the one of the name and the numbers that they say
pub task_found : (words : List (List ℕ)) (task found : Task) (name : List ℕ) (bound budget : ℕ) → IsTask words found
    → name ≡ file_of found → bound ≡ bound_of found → budget ≡ budget_of found → IsTask words task
    → Synth name bound budget ≡ task
task_found words task found name bound budget is names bounds budgets asked =
    same_parts name (file_of found) bound (bound_of found) budget (budget_of found) names bounds budgets
    ∙ task_is found ∙ same_task words found task is asked
