use Rattle.std.proofs.Common.{◌≡◌, ℕ, List, Err, inl, inr, ⊎_elim, refl, ap, subst, sym, arith}
use Rattle.std.specs.String.{string_bytes}
use Rattle.isel_base.specs.Outside.{Rose}
use Rattle.isel_cmd.specs.declared.refusal.Failure.{Failure}
use Rattle.isel_cmd.specs.declared.refusal.Failure.TheVariants as failure
use Rattle.isel_cmd.specs.Words.{Synth}
use Rattle.isel_cmd.specs.Status.{number_of, done_status}
use Rattle.isel_cmd.specs.Program.{IsWork}
use Rattle.isel_cmd.proofs.NoteLemmas.{done_is, done_as, no_note, failure_note, cut_note, failed_status}
use Rattle.isel_cmd.proofs.NoteLemmas.{failed_not_done, failed_read}
use Rattle.isel_cmd.proofs.program.synth.Goals as goal

pub returns-in-Err-clause-line : goal.returns-in-Err-clause-line
returns-in-Err-clause-line g c =
    failure_note (g.F.Files.bytes c.args.files.now)
    (λ (other : List ℕ). Rose (g.F.Files.faults c.args.files.now other)
    (g.F.Files.faults c.library_for.new.files other))
    (Synth c.args.name.now c.args.bound c.args.budget) c.in-Err.failure (number_of c.refuse.result)
    (g.E.Sink.written c.args.notes.now) (g.E.Sink.written c.refuse.new.notes) c.in-Err.ensures.outcome
    c.refuse.ensures.status c.refuse.ensures.told c.refuse.ensures.told_memory

pub returns-in-Err-clause-cut_line : goal.returns-in-Err-clause-cut_line
returns-in-Err-clause-cut_line g c = λ five.
    cut_note (g.F.Files.bytes c.args.files.now)
    (λ (other : List ℕ). Rose (g.F.Files.faults c.args.files.now other)
    (g.F.Files.faults c.library_for.new.files other))
    (Synth c.args.name.now c.args.bound c.args.budget) c.in-Err.failure
    (g.E.Sink.written c.args.notes.now) (g.E.Sink.written c.refuse.new.notes) c.in-Err.ensures.outcome
    (c.refuse.ensures.cut five)

pub returns-in-Ok-clause-cut : goal.returns-in-Ok-clause-cut
returns-in-Ok-clause-cut g c = λ five.
    inr (
      string_bytes c.in-Ok.library.text,
      (done_status c.in-Ok.library.is_open, c.in-Ok.ensures.outcome),
      c.deliver.ensures.cut five,
    )

pub returns-in-Ok-clause-headline : goal.returns-in-Ok-clause-headline
returns-in-Ok-clause-headline g c = λ done.
    let told = g.F.Files.bytes c.args.files.now in
    let task = Synth c.args.name.now c.args.bound c.args.budget in
    let text = string_bytes c.in-Ok.library.text in
    let same = done_as (number_of c.deliver.result) c.in-Ok.library.is_open done c.deliver.ensures.status in (
      text,
      subst (λ (status : ℕ). IsWork told task status text) (sym same) c.in-Ok.ensures.outcome,
      c.deliver.ensures.done (λ five. omega (arith, done, five)),
    )

pub returns-in-Ok-clause-line : goal.returns-in-Ok-clause-line
returns-in-Ok-clause-line g c = λ other.
    no_note (g.F.Files.bytes c.args.files.now)
    (λ (name : List ℕ). Rose (g.F.Files.faults c.args.files.now name) (g.F.Files.faults c.library_for.new.files name))
    (Synth c.args.name.now c.args.bound c.args.budget) (number_of c.deliver.result) (g.E.Sink.written c.args.notes.now)
    (⊎_elim (λ same. done_is (number_of c.deliver.result) c.in-Ok.library.is_open same) (λ five. absurd (other five))
    c.deliver.ensures.status)

pub returns-in-Ok-clause-cut_line : goal.returns-in-Ok-clause-cut_line
returns-in-Ok-clause-cut_line g c = λ five. inl refl

pub returns-in-Ok-clause-status : goal.returns-in-Ok-clause-status
returns-in-Ok-clause-status g c =
    ⊎_elim (λ same. inl (done_is (number_of c.deliver.result) c.in-Ok.library.is_open same))
    (λ five. inr (inr (inr (inl five)))) c.deliver.ensures.status

pub returns-in-Ok-clause-one_fails : goal.returns-in-Ok-clause-one_fails
returns-in-Ok-clause-one_fails g c = λ five. inr (refl, c.deliver.ensures.cause five)

pub returns-in-Ok-clause-one_left : goal.returns-in-Ok-clause-one_left
returns-in-Ok-clause-one_left g c = λ five. inr refl

pub returns-in-Err-clause-status : goal.returns-in-Err-clause-status
returns-in-Err-clause-status g c = failed_status c.in-Err.failure (number_of c.refuse.result) c.refuse.ensures.status

pub returns-in-Err-clause-headline : goal.returns-in-Err-clause-headline
returns-in-Err-clause-headline g c = λ zero.
    absurd (failed_not_done c.in-Err.failure (number_of c.refuse.result) c.refuse.ensures.status zero)

pub returns-in-Err-clause-notes_left : goal.returns-in-Err-clause-notes_left
returns-in-Err-clause-notes_left g c = λ zero.
    absurd (failed_not_done c.in-Err.failure (number_of c.refuse.result) c.refuse.ensures.status zero)

pub returns-in-Err-clause-cut : goal.returns-in-Err-clause-cut
returns-in-Err-clause-cut g c = λ five. inl refl

pub returns-in-Err-clause-one_fails : goal.returns-in-Err-clause-one_fails
returns-in-Err-clause-one_fails g c = λ five. inl (refl, c.refuse.ensures.cause five)

pub returns-in-Err-clause-one_left : goal.returns-in-Err-clause-one_left
returns-in-Err-clause-one_left g c = λ five. inl refl

pub returns-in-Err-clause-steady : goal.returns-in-Err-clause-steady
returns-in-Err-clause-steady g c = λ never four.
    let same : c.in-Err.failure ≡ failure.ReadFault =
    failed_read c.in-Err.failure (number_of c.refuse.result) c.refuse.ensures.status four in
    c.in-Err.ensures.steady never (ap (λ (f : Failure). Err f) same)
