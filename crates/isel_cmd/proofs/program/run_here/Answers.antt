use Rattle.std.proofs.Common.{◌≡◌, ◌≢◌, ℕ, List, Some, map, ◌↔◌, ◌++◌, ◌∙◌, sym, ap, subst, arith}
use Rattle.std.specs.Prelude.{IsTrue}
use Rattle.std.specs.String.{string_bytes}
use Rattle.isel_base.specs.Outside.{Rose, ReadsOnly}
use Rattle.isel_cmd.specs.Words.{Task, Synth, HasNoForm, file_of}
use Rattle.isel_cmd.specs.Command.{task_of}
use Rattle.isel_cmd.specs.Status.{number_of, IsDone}
use Rattle.isel_cmd.specs.Program.{IsWork, IsSomeWork, IsNote, IsSomeNote, Writes, WritesAtMostPart, IsTaskStatus}
use Rattle.isel_cmd.specs.Program.{with_text, no_form_line}
use Rattle.isel_cmd.proofs.TaskLemmas.{task_found}
use Rattle.isel_cmd.proofs.NoteLemmas.{refused_of, line_of_reason, no_work, complete_from}
use Rattle.isel_cmd.proofs.ExactLemmas.{refused_exactly, told_exactly, never_two}
use Rattle.isel_cmd.proofs.program.run_here.Goals as goal

-- ---- words without a form

pub returns-in-None-clause-no_form_exact : goal.returns-in-None-clause-no_form_exact
returns-in-None-clause-no_form_exact g c = λ before tells.
    let new = g.E.Sink.written c.tell.new.notes in
    let P : ℕ → Type 0 = λ r. (r ≡ 2)
    ↔ (HasNoForm (map string_bytes c.args.words.now) × (new ≡ Some (before ++ no_form_line))) in
    subst P (sym c.number.ensures)
    (told_exactly (HasNoForm (map string_bytes c.args.words.now)) (number_of c.tell.result) 2
    no_form_line before _ _ c.in-None.ensures
    (λ e. omega (arith, e)) c.tell.ensures.status c.tell.ensures.told c.tell.ensures.cut tells)

-- ---- words of a task

pub returns-in-Some-clause-headline : goal.returns-in-Some-clause-headline
returns-in-Some-clause-headline g c = λ task is done.
    let same = task_found _ task (task_of c.in-Some.command) c.file-name.result.now c.bound-bound.result
    c.budget-budget.result c.in-Some.ensures c.file-name.ensures c.bound-bound.ensures c.budget-budget.ensures is in
    let P : Task → ℕ → Type 0 = λ t r. Writes (IsWork (g.F.Files.bytes c.args.files.now) t r)
    (g.S.Sink.written c.args.out.now) (g.S.Sink.written c.synth.new.out) in
    let Q : Task → Type 0 = λ t. P t c.number-in-Some.result in
    subst Q same
    (subst (P (Synth c.file-name.result.now c.bound-bound.result c.budget-budget.result)) (sym c.number-in-Some.ensures)
    (c.synth.ensures.headline (subst IsDone c.number-in-Some.ensures done)))

pub returns-in-Some-clause-cut : goal.returns-in-Some-clause-cut
returns-in-Some-clause-cut g c = λ task is five.
    let same = task_found _ task (task_of c.in-Some.command) c.file-name.result.now c.bound-bound.result
    c.budget-budget.result c.in-Some.ensures c.file-name.ensures c.bound-bound.ensures c.budget-budget.ensures is in
    let P : Task → Type 0 = λ t. WritesAtMostPart (IsSomeWork (g.F.Files.bytes c.args.files.now) t)
    (g.S.Sink.written c.args.out.now) (g.S.Sink.written c.synth.new.out) in
    subst P same (c.synth.ensures.cut (sym c.number-in-Some.ensures ∙ five))

pub returns-in-Some-clause-form : goal.returns-in-Some-clause-form
returns-in-Some-clause-form g c = λ task is. subst IsTaskStatus (sym c.number-in-Some.ensures) c.synth.ensures.status

pub returns-in-Some-clause-no_form_exact : goal.returns-in-Some-clause-no_form_exact
returns-in-Some-clause-no_form_exact g c = λ before tells.
    never_two _ _ c.number-in-Some.result (subst IsTaskStatus (sym c.number-in-Some.ensures) c.synth.ensures.status)
    (λ none. none (task_of c.in-Some.command) c.in-Some.ensures)

pub returns-in-Some-clause-line : goal.returns-in-Some-clause-line
returns-in-Some-clause-line g c = λ task is.
    let same = task_found _ task (task_of c.in-Some.command) c.file-name.result.now c.bound-bound.result
    c.budget-budget.result c.in-Some.ensures c.file-name.ensures c.bound-bound.ensures c.budget-budget.ensures is in
    let failed : List ℕ → Type 0 =
    λ other. Rose (g.F.Files.faults c.args.files.now other) (g.F.Files.faults c.synth.new.files other) in
    let P : Task → ℕ → Type 0 = λ t r. r ≢ 5 → Writes (IsNote (g.F.Files.bytes c.args.files.now) failed t r)
    (g.E.Sink.written c.args.notes.now) (g.E.Sink.written c.synth.new.notes) in
    let Q : Task → Type 0 = λ t. P t c.number-in-Some.result in
    subst Q same
    (subst (P (Synth c.file-name.result.now c.bound-bound.result c.budget-budget.result)) (sym c.number-in-Some.ensures)
    c.synth.ensures.line)

pub returns-in-Some-clause-cut_line : goal.returns-in-Some-clause-cut_line
returns-in-Some-clause-cut_line g c = λ task is five.
    let same = task_found _ task (task_of c.in-Some.command) c.file-name.result.now c.bound-bound.result
    c.budget-budget.result c.in-Some.ensures c.file-name.ensures c.bound-bound.ensures c.budget-budget.ensures is in
    let failed : List ℕ → Type 0 =
    λ other. Rose (g.F.Files.faults c.args.files.now other) (g.F.Files.faults c.synth.new.files other) in
    let P : Task → Type 0 = λ t. WritesAtMostPart (IsSomeNote (g.F.Files.bytes c.args.files.now) failed t)
    (g.E.Sink.written c.args.notes.now) (g.E.Sink.written c.synth.new.notes) in
    subst P same (c.synth.ensures.cut_line (sym c.number-in-Some.ensures ∙ five))

pub returns-in-Some-clause-refused_only : goal.returns-in-Some-clause-refused_only
returns-in-Some-clause-refused_only g c = λ task bytes reason is told why done.
    let work = returns-in-Some-clause-headline g c task is done in
    no_work (g.F.Files.bytes c.args.files.now) task c.number-in-Some.result bytes work.0 reason told why work.1

pub returns-in-Some-clause-refused_line : goal.returns-in-Some-clause-refused_line
returns-in-Some-clause-refused_line g c = λ task bytes reason is told why three.
    let failed : List ℕ → Type 0 =
    λ other. Rose (g.F.Files.faults c.args.files.now other) (g.F.Files.faults c.synth.new.files other) in
    let note = returns-in-Some-clause-line g c task is (λ five. omega (arith, three, five)) in
    note.2
    ∙ ap (λ (text : List ℕ). with_text text (g.E.Sink.written c.args.notes.now))
    (line_of_reason (g.F.Files.bytes c.args.files.now) task bytes note.0 reason told why
    (refused_of (g.F.Files.bytes c.args.files.now) failed task c.number-in-Some.result note.0 note.1 three))

pub returns-in-Some-clause-refused_exact : goal.returns-in-Some-clause-refused_exact
returns-in-Some-clause-refused_exact g c = λ task before is tells.
    let failed : List ℕ → Type 0 =
    λ other. Rose (g.F.Files.faults c.args.files.now other) (g.F.Files.faults c.synth.new.files other) in
    refused_exactly (g.F.Files.bytes c.args.files.now) failed task c.number-in-Some.result before
    (g.E.Sink.written c.args.notes.now) (g.E.Sink.written c.synth.new.notes)
    (returns-in-Some-clause-form g c task is) (returns-in-Some-clause-line g c task is)
    (returns-in-Some-clause-cut_line g c task is) tells

pub returns-in-Some-clause-reads_only : goal.returns-in-Some-clause-reads_only
returns-in-Some-clause-reads_only g c = λ task is.
    let same = task_found _ task (task_of c.in-Some.command) c.file-name.result.now c.bound-bound.result
    c.budget-budget.result c.in-Some.ensures c.file-name.ensures c.bound-bound.ensures c.budget-budget.ensures is in
    let P : Task → Type 0 =
    λ t. ReadsOnly g.F.Files.read_leaves (file_of t) c.args.files.now c.synth.new.files in
    subst P same c.synth.ensures.only

pub returns-in-Some-clause-complete : goal.returns-in-Some-clause-complete
returns-in-Some-clause-complete g c = λ task bytes f is told accepted read out notes.
    let failed : List ℕ → Type 0 =
    λ other. Rose (g.F.Files.faults c.args.files.now other) (g.F.Files.faults c.synth.new.files other) in
    complete_from (g.F.Files.bytes c.args.files.now) failed task c.number-in-Some.result
    (g.E.Sink.written c.args.notes.now) (g.E.Sink.written c.synth.new.notes) bytes f
    (Rose (g.S.Sink.faults c.args.out.now) (g.S.Sink.faults c.synth.new.out))
    (Rose (g.E.Sink.faults c.args.notes.now) (g.E.Sink.faults c.synth.new.notes))
    (returns-in-Some-clause-form g c task is) told accepted (returns-in-Some-clause-line g c task is)
    (λ five. c.synth.ensures.write_fault (sym c.number-in-Some.ensures ∙ five)) read out notes

pub returns-in-Some-clause-steady : goal.returns-in-Some-clause-steady
returns-in-Some-clause-steady g c = λ task is never four.
    let same = task_found _ task (task_of c.in-Some.command) c.file-name.result.now c.bound-bound.result
    c.budget-budget.result c.in-Some.ensures c.file-name.ensures c.bound-bound.ensures c.budget-budget.ensures is in
    let P : Task → Type 0 = λ t. IsTrue (g.F.Files.never_fails c.args.files.now (file_of t)) in
    c.synth.ensures.steady (subst P (sym same) never) (sym c.number-in-Some.ensures ∙ four)
