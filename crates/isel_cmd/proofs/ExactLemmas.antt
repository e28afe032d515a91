-- What was written tells the status.
use Rattle.std.proofs.Common.{◌≡◌, ◌≢◌, ℕ, List, [], ◌++◌, length, take, Option, Some, ◌⊎◌, ◌↔◌, inl, inr}
use Rattle.std.proofs.Common.{ap, ◌∙◌, sym, arith, append-nil}
use Rattle.std.proofs.lemmas.List.{append_cancel_left, length-take-le}
use Rattle.isel_base.specs.Outside.{HasPrefix}
use Rattle.isel_cmd.specs.Words.{Task, file_of}
use Rattle.isel_cmd.specs.Refusal.{reason_text}
use Rattle.isel_cmd.specs.Program.{Told, IsRefused, with_text, IsNote, Writes, WritesAtMostPart, IsSomeNote}
use Rattle.isel_cmd.specs.Program.{IsTaskStatus}
use Rattle.isel_cmd.proofs.LineLemmas.{line_is_some}
use Rattle.isel_cmd.proofs.NoteLemmas.{refused_of, refusal_status, refusal_is_whole}

-- what was appended is what was to be appended
appended : (before text other : List ℕ) (old new : Option (List ℕ)) → old ≡ Some before → new ≡ with_text text old
    → new ≡ Some (before ++ other) → text ≡ other
appended before text other old new o e w =
    let s : Some (before ++ text) ≡ Some (before ++ other) = sym (e ∙ ap (with_text text) o) ∙ w in
    let same : before ++ text ≡ before ++ other = cc in
    append_cancel_left before text other same

nothing : (before : List ℕ) (old : Option (List ℕ)) → old ≡ Some before → old ≡ with_text [] old
nothing before old o = o ∙ ap Some (sym (append-nil before)) ∙ sym (ap (with_text []) o)

-- after a whole text what was written is known
with_before : (before text : List ℕ) (old new : Option (List ℕ)) → old ≡ Some before → new ≡ with_text text old
    → new ≡ Some (before ++ text)
with_before before text old new o e = e ∙ ap (with_text text) o

-- after a part of a text the whole text was not written
cut_is_not_whole : (before text : List ℕ) (old new : Option (List ℕ)) → old ≡ Some before → HasPrefix old text new
    → new ≡ Some (before ++ text) → ⊥
cut_is_not_whole before text old new o (n, less, e) w =
    let same = ap length (appended before (take n text) text old new o e w) in
    omega (arith, same, length-take-le n text (omega (arith, less)))

-- ---- the line of a refused file

-- that line was written whole
whole_line : (told : Told) (failed : List ℕ → Type 0) (task : Task) (result : ℕ) (before text : List ℕ)
    (old new : Option (List ℕ)) → old ≡ Some before → IsRefused told task text → new ≡ Some (before ++ text)
    → Writes (IsNote told failed task result) old new → result ≡ 3
whole_line told failed task result before text old new o (reason, why, e) w (note, is, written) =
    refusal_status told failed task result note reason is (appended before note text old new o written w ∙ e)

-- a part of another line is not that line
no_cut : (told : Told) (failed : List ℕ → Type 0) (task : Task) (before text : List ℕ) (old new : Option (List ℕ))
    → old ≡ Some before → IsRefused told task text → new ≡ Some (before ++ text)
    → WritesAtMostPart (IsSomeNote told failed task) old new → ⊥
no_cut told failed task before text old new o (reason, why, e) w (inl same) =
    let none : [] ≡ text = appended before [] text old new o (same ∙ nothing before old o) w in
    omega (arith, ap length none, ap length e, line_is_some (file_of task) (reason_text reason))
no_cut told failed task before text old new o (reason, why, e) w (inr (note, (status, is), (n, less, written))) =
    refusal_is_whole told failed task status note reason n is less
    (appended before (take n note) text old new o written w ∙ e)

is_refused : (told : Told) (failed : List ℕ → Type 0) (task : Task) (result : ℕ) (before text : List ℕ)
    (old new : Option (List ℕ)) → IsTaskStatus result
    → (result ≢ 5 → Writes (IsNote told failed task result) old new)
    → (result ≡ 5 → WritesAtMostPart (IsSomeNote told failed task) old new) → old ≡ Some before
    → IsRefused told task text → new ≡ Some (before ++ text) → result ≡ 3
is_refused told failed task result before text old new (inl zero) line cut o why w =
    whole_line told failed task result before text old new o why w (line (λ five. omega (arith, zero, five)))
is_refused told failed task result before text old new (inr (inl three)) line cut o why w = three
is_refused told failed task result before text old new (inr (inr (inl four))) line cut o why w =
    whole_line told failed task result before text old new o why w (line (λ five. omega (arith, four, five)))
is_refused told failed task result before text old new (inr (inr (inr (inl five)))) line cut o why w =
    absurd (no_cut told failed task before text old new o why w (cut five))
is_refused told failed task result before text old new (inr (inr (inr (inr six)))) line cut o why w =
    whole_line told failed task result before text old new o why w (line (λ five. omega (arith, six, five)))

-- the status of a refused file comes exactly where its line was written
pub refused_exactly : (told : Told) (failed : List ℕ → Type 0) (task : Task) (result : ℕ) (before : List ℕ)
    (old new : Option (List ℕ)) → IsTaskStatus result
    → (result ≢ 5 → Writes (IsNote told failed task result) old new)
    → (result ≡ 5 → WritesAtMostPart (IsSomeNote told failed task) old new) → old ≡ Some before
    → ((result ≡ 3) ↔ ((text : List ℕ) × IsRefused told task text × (new ≡ Some (before ++ text))))
refused_exactly told failed task result before old new status line cut o = (
  (λ three. let note = line (λ five. omega (arith, three, five)) in (
    note.0,
    refused_of told failed task result note.0 note.1 three,
    with_before before note.0 old new o note.2,
  )),
  (λ p. is_refused told failed task result before p.0 old new status line cut o p.1 p.2),
)

-- ---- a line that was to be written, come what may

pub told_exactly : (N : Type 0) (result status : ℕ) (text before : List ℕ) (old new : Option (List ℕ)) → N → status ≢ 5
    → ((result ≡ status) ⊎ (result ≡ 5)) → (result ≢ 5 → new ≡ with_text text old)
    → (result ≡ 5 → HasPrefix old text new) → old ≡ Some before
    → ((result ≡ status) ↔ (N × (new ≡ Some (before ++ text))))
told_exactly N result status text before old new reason other (inl same) whole cut o =
    ((λ e. (reason, with_before before text old new o (whole (λ five. other (sym same ∙ five))))), (λ p. same))
told_exactly N result status text before old new reason other (inr five) whole cut o =
    ((λ e. absurd (other (sym e ∙ five))), (λ p. absurd (cut_is_not_whole before text old new o (cut five) p.1)))

-- a task never has the status of words without a form
pub never_two : (N X : Type 0) (result : ℕ) → IsTaskStatus result → (N → ⊥) → ((result ≡ 2) ↔ (N × X))
never_two N X result status none = ((λ two. absurd (omega (arith, status, two))), (λ p. absurd (none p.0)))
