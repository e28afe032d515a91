-- From promised answers to their text.
use Rattle.std.proofs.Common.{◌≡◌, ℕ, List, Bool, ap, sym, subst}
use Rattle.std.specs.List.{list_any}
use Rattle.isel_spec.specs.File.{File}
use Rattle.multiset_rank.specs.Claims.{Plan}
use Rattle.pattern_core.specs.declared.pattern.GoalAnswer.{GoalAnswer}
use Rattle.pattern_core.specs.Pattern.{Pairwise}
use Rattle.pattern_text.specs.Text.{library_text}
use Rattle.claim_outcome.specs.declared.outcome.Outcome.{Outcome}
use Rattle.rule_library.specs.Book.{AreRight}
use Rattle.rule_library.specs.Promise.{IsPromised}
use Rattle.isel_cmd.specs.Status.{done_status}
use Rattle.isel_cmd.specs.Program.{lists_open, IsLibraryText}

-- the text of the answers that a right book promises
pub library_text_of : (f : File) (p : Plan) (budget : ℕ) (book : List (ℕ × Outcome)) (goals answers : List GoalAnswer)
    (text : List ℕ) (is_open : Bool) → AreRight f p budget book
    → ((units : ℕ) → AreRight f p units book → Pairwise (IsPromised f p.bound units) f.goals goals)
    → answers ≡ goals → text ≡ library_text f answers → is_open ≡ list_any lists_open answers
    → IsLibraryText f p.bound budget (done_status is_open) text
library_text_of f p budget book goals answers text is_open right promise same written opened = record {
  answers = answers;
  promised = subst (λ (as' : List GoalAnswer). Pairwise (IsPromised f p.bound budget) f.goals as') (sym same)
      (promise budget right);
  written = written;
  status_is = ap done_status opened;
}
