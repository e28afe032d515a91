-- The lines that a failed task writes, and what follows from them.
use Rattle.std.proofs.Common.{◌≡◌, ◌≢◌, ℕ, ◌<◌, List, [], length, take, Option, Some, None, codes, ◌⊎◌}
use Rattle.std.proofs.Common.{inl, inr, refl, ap, subst, ◌∙◌, sym, arith, append-nil, Bool, true, false}
use Rattle.std.specs.Prelude.{IfSome}
use Rattle.isel_base.specs.Outside.{HasPrefix}
use Rattle.isel_spec.specs.File.{File}
use Rattle.isel_cmd.specs.declared.refusal.Reason.{Reason}
use Rattle.isel_cmd.specs.declared.refusal.Failure.{Failure}
use Rattle.isel_cmd.specs.declared.refusal.Failure.TheVariants as failure
use Rattle.isel_cmd.specs.Words.{Task, file_of, bound_of}
use Rattle.isel_cmd.specs.Refusal.{IsReason, reason_text, refusal_line}
use Rattle.isel_cmd.specs.Status.{done_status, IsDone, failure_status, failure_line, unread_line, memory_line}
use Rattle.isel_cmd.specs.Program.{Told, IsWork, IsRefused, IsCause, with_text, IsNote}
use Rattle.isel_cmd.specs.Program.{Writes, WritesAtMostPart, IsSomeNote, IsAccepted, IsTaskStatus}
use Rattle.isel_cmd.proofs.LineLemmas.{part_is_no_line, part_is_no_named_line, line_is_some}
use Rattle.isel_cmd.proofs.ReasonLemmas.{reason_has_no_feed, memory_differs, unread_differs}
use Rattle.isel_cmd.proofs.OutcomeLemmas.{one_reason, no_reason}

-- ---- the work is done

pub done_is : (status : ℕ) (is_open : Bool) → status ≡ done_status is_open → IsDone status
done_is status false e = inl e
done_is status true e = inr e

-- a status of work that is done, where a write may have failed
pub done_as : (status : ℕ) (is_open : Bool) → IsDone status → ((status ≡ done_status is_open) ⊎ (status ≡ 5))
    → status ≡ done_status is_open
done_as status is_open done (inl same) = same
done_as status is_open done (inr five) = absurd (omega (arith, done, five))

-- ---- a task that is done writes no line

nothing_more : (told : Option (List ℕ)) → told ≡ with_text [] told
nothing_more None = refl
nothing_more (Some text) = ap Some (sym (append-nil text))

pub no_note : (told : Told) (failed : List ℕ → Type 0) (task : Task) (status : ℕ) (old : Option (List ℕ))
    → IsDone status → Writes (IsNote told failed task status) old old
no_note told failed task status old done = ([], inl (done, refl), nothing_more old)

-- ---- the line of a failure

refused_note : (told : Told) (failed : List ℕ → Type 0) (task : Task) (failure : Failure)
    → IsCause told failed (file_of task) (bound_of task) failure
    → IsNote told failed task (failure_status failure) (failure_line (file_of task) failure)
refused_note told failed task (failure.Refused reason) why = inr (inl (refl, (reason, why, refl)))
refused_note told failed task failure.ReadFault why = inr (inr (inl (refl, (why, refl))))
refused_note told failed task failure.NoMemory why = inr (inr (inr (refl, refl)))

memory_note : (told : Told) (failed : List ℕ → Type 0) (task : Task) (status : ℕ) → status ≡ 6
    → IsNote told failed task status memory_line
memory_note told failed task status six = inr (inr (inr (six, refl)))

-- the whole line was written
pub failure_note : (told : Told) (failed : List ℕ → Type 0) (task : Task) (failure : Failure) (status : ℕ)
    (old new : Option (List ℕ)) → IsCause told failed (file_of task) (bound_of task) failure
    → ((status ≡ failure_status failure) ⊎ (status ≡ 5) ⊎ (status ≡ 6))
    → (status ≢ 5 → status ≢ 6 → new ≡ with_text (failure_line (file_of task) failure) old)
    → (status ≡ 6 → new ≡ with_text memory_line old) → status ≢ 5 → Writes (IsNote told failed task status) old new
failure_note told failed task failure status old new why (inr (inl five)) whole memory other = absurd (other five)
failure_note told failed task failure status old new why (inr (inr six)) whole memory other =
    (memory_line, memory_note told failed task status six, memory six)
failure_note told failed task (failure.Refused reason) status old new why (inl same) whole memory other = (
  refusal_line (file_of task) reason,
  inr (inl (same, (reason, why, refl))),
  whole other (λ six. omega (arith, same, six)),
)
failure_note told failed task failure.ReadFault status old new why (inl same) whole memory other =
    (unread_line (file_of task), inr (inr (inl (same, (why, refl)))), whole other (λ six. omega (arith, same, six)))
failure_note told failed task failure.NoMemory status old new why (inl same) whole memory other =
    (memory_line, memory_note told failed task status same, memory same)

-- a part of it was written
pub cut_note : (told : Told) (failed : List ℕ → Type 0) (task : Task) (failure : Failure) (old new : Option (List ℕ))
    → IsCause told failed (file_of task) (bound_of task) failure
    → (HasPrefix old (failure_line (file_of task) failure) new ⊎ HasPrefix old memory_line new)
    → WritesAtMostPart (IsSomeNote told failed task) old new
cut_note told failed task failure old new why (inl cut) = inr (
  failure_line (file_of task) failure,
  (failure_status failure, refused_note told failed task failure why),
  cut,
)
cut_note told failed task failure old new why (inr cut) =
    inr (memory_line, (6, memory_note told failed task 6 refl), cut)

-- ---- statuses of failures

pub failed_status : (failure : Failure) (status : ℕ)
    → ((status ≡ failure_status failure) ⊎ (status ≡ 5) ⊎ (status ≡ 6)) → IsTaskStatus status
failed_status failure status (inr (inl five)) = inr (inr (inr (inl five)))
failed_status failure status (inr (inr six)) = inr (inr (inr (inr six)))
failed_status (failure.Refused reason) status (inl same) = inr (inl same)
failed_status failure.ReadFault status (inl same) = inr (inr (inl same))
failed_status failure.NoMemory status (inl same) = inr (inr (inr (inr same)))

pub failed_not_done : (failure : Failure) (status : ℕ)
    → ((status ≡ failure_status failure) ⊎ (status ≡ 5) ⊎ (status ≡ 6)) → IsDone status → ⊥
failed_not_done failure status (inr why) done = omega (arith, why, done)
failed_not_done (failure.Refused reason) status (inl same) done = omega (arith, same, done)
failed_not_done failure.ReadFault status (inl same) done = omega (arith, same, done)
failed_not_done failure.NoMemory status (inl same) done = omega (arith, same, done)

pub failed_read : (f : Failure) (status : ℕ)
    → ((status ≡ failure_status f) ⊎ (status ≡ 5) ⊎ (status ≡ 6)) → status ≡ 4 → f ≡ failure.ReadFault
failed_read f status (inr why) four = absurd (omega (arith, why, four))
failed_read (failure.Refused reason) status (inl same) four = absurd (omega (arith, same, four))
failed_read failure.ReadFault status (inl same) four = refl
failed_read failure.NoMemory status (inl same) four = absurd (omega (arith, same, four))

-- ---- what a line says

pub refused_of : (told : Told) (failed : List ℕ → Type 0) (task : Task) (status : ℕ) (text : List ℕ)
    → IsNote told failed task status text → status ≡ 3 → IsRefused told task text
refused_of told failed task status text (inl (zero, e)) three = absurd (omega (arith, zero, three))
refused_of told failed task status text (inr (inl (same, why))) three = why
refused_of told failed task status text (inr (inr (inl (four, why)))) three = absurd (omega (arith, four, three))
refused_of told failed task status text (inr (inr (inr (six, e)))) three = absurd (omega (arith, six, three))

unread_of : (told : Told) (failed : List ℕ → Type 0) (task : Task) (status : ℕ) (text : List ℕ)
    → IsNote told failed task status text → status ≡ 4 → failed (file_of task)
unread_of told failed task status text (inl (zero, e)) four = absurd (omega (arith, zero, four))
unread_of told failed task status text (inr (inl (three, why))) four = absurd (omega (arith, three, four))
unread_of told failed task status text (inr (inr (inl (same, why)))) four = why.0
unread_of told failed task status text (inr (inr (inr (six, e)))) four = absurd (omega (arith, six, four))

-- the line of a refused file has its status
pub refusal_status : (told : Told) (failed : List ℕ → Type 0) (task : Task) (status : ℕ) (text : List ℕ)
    (reason : Reason)
    → IsNote told failed task status text → text ≡ refusal_line (file_of task) reason → status ≡ 3
refusal_status told failed task status text reason (inl (zero, e)) same =
    absurd (omega (arith, ap length e, ap length same, line_is_some (file_of task) (reason_text reason)))
refusal_status told failed task status text reason (inr (inl (three, why))) same = three
refusal_status told failed task status text reason (inr (inr (inl (four, why)))) same =
    absurd (unread_differs (file_of task) reason (sym why.1 ∙ same))
refusal_status told failed task status text reason (inr (inr (inr (six, e)))) same =
    absurd (memory_differs (file_of task) reason (sym e ∙ same))

-- a part of a line of that text is no whole line of a refused file
part_of : (name text whole : List ℕ) (n : ℕ) (reason : Reason)
    → ((m : ℕ) → m < length whole → take m whole ≡ refusal_line name reason → ⊥) → text ≡ whole → n < length text
    → take n text ≡ refusal_line name reason → ⊥
part_of name text whole n reason none same less e =
    none n (omega (arith, less, ap length same)) (sym (ap (take n) same) ∙ e)

pub refusal_is_whole : (told : Told) (failed : List ℕ → Type 0) (task : Task) (status : ℕ) (text : List ℕ)
    (reason : Reason) (n : ℕ)
    → IsNote told failed task status text → n < length text → take n text ≡ refusal_line (file_of task) reason → ⊥
refusal_is_whole told failed task status text reason n (inl (zero, e)) less same =
    omega (arith, less, ap length e)
refusal_is_whole told failed task status text reason n (inr (inl (three, (other, (bytes, has, why), e)))) less same =
    part_of (file_of task) text (refusal_line (file_of task) other) n reason
    (λ m. part_is_no_named_line (file_of task) (reason_text other) (reason_text reason) m
    (reason_has_no_feed bytes (bound_of task) other why)) e less same
refusal_is_whole told failed task status text reason n (inr (inr (inl (four, why)))) less same =
    part_of (file_of task) text (unread_line (file_of task)) n reason
    (λ m. part_is_no_named_line (file_of task) (codes ": ReadFault") (reason_text reason) m refl) why.1 less same
refusal_is_whole told failed task status text reason n (inr (inr (inr (six, e)))) less same =
    part_of (file_of task) text memory_line n reason
    (λ m. part_is_no_line (codes "memory") (file_of task) (reason_text reason) m refl) e less same

-- ---- what is told of a file

same_bytes : (told : Option (List ℕ)) (bytes other : List ℕ) → told ≡ Some bytes → IfSome told (λ all. other ≡ all)
    → other ≡ bytes
same_bytes (Some all) bytes other e has = has ∙ (cc)
same_bytes None bytes other e has = absurd (cc)

-- bytes of a name that are refused for a reason have its line
pub line_of_reason : (told : Told) (task : Task) (bytes text : List ℕ) (reason : Reason)
    → told (file_of task) ≡ Some bytes → IsReason bytes (bound_of task) reason → IsRefused told task text
    → text ≡ refusal_line (file_of task) reason
line_of_reason told task bytes text reason e why (other, (found, has, is), same) =
    let there : found ≡ bytes = same_bytes (told (file_of task)) bytes found e has in
    let one : other ≡ reason = one_reason bytes (bound_of task) other reason
    (subst (λ (b : List ℕ). IsReason b (bound_of task) other) there is) why in
    same ∙ ap (refusal_line (file_of task)) one

-- refused bytes of a name have no library
pub no_work : (told : Told) (task : Task) (status : ℕ) (bytes text : List ℕ) (reason : Reason)
    → told (file_of task) ≡ Some bytes → IsReason bytes (bound_of task) reason → IsWork told task status text → ⊥
no_work told task status bytes text reason e why (found, has, library) =
    let there : found ≡ bytes = same_bytes (told (file_of task)) bytes found e has in
    no_reason bytes (bound_of task) library.file reason
    (subst (λ (b : List ℕ). IsAccepted b (bound_of task) library.file) there library.accepted) why

-- accepted bytes of a name are not refused
pub not_refused : (told : Told) (task : Task) (bytes text : List ℕ) (f : File) → told (file_of task) ≡ Some bytes
    → IsAccepted bytes (bound_of task) f → IsRefused told task text → ⊥
not_refused told task bytes text f e accepted (reason, (found, has, is), same) =
    let there : found ≡ bytes = same_bytes (told (file_of task)) bytes found e has in
    no_reason bytes (bound_of task) f reason accepted
    (subst (λ (b : List ℕ). IsReason b (bound_of task) reason) there is)

-- a task that has accepted bytes, in which nothing failed, is done, unless memory ran out
pub complete_from : (told : Told) (failed : List ℕ → Type 0) (task : Task) (status : ℕ) (old new : Option (List ℕ))
    (bytes : List ℕ) (f : File) (B C : Type 0) → IsTaskStatus status → told (file_of task) ≡ Some bytes
    → IsAccepted bytes (bound_of task) f → (status ≢ 5 → Writes (IsNote told failed task status) old new)
    → (status ≡ 5 → B ⊎ C) → (failed (file_of task) → ⊥) → (B → ⊥) → (C → ⊥) → IsDone status ⊎ (status ≡ 6)
complete_from told failed task status old new bytes f B C (inl done) e accepted line fault a b c = inl done
complete_from told failed task status old new bytes f B C (inr (inl three)) e accepted line fault a b c =
    let note = line (λ five. omega (arith, three, five)) in
    absurd (not_refused told task bytes note.0 f e accepted
    (refused_of told failed task status note.0 note.1 three))
complete_from told failed task status old new bytes f B C (inr (inr (inl four))) e accepted line fault a b c =
    let note = line (λ five. omega (arith, four, five)) in
    absurd (a (unread_of told failed task status note.0 note.1 four))
complete_from told failed task status old new bytes f B C (inr (inr (inr (inl five)))) e accepted line fault a b c =
    by (fault five)
  where
    by : B ⊎ C → IsDone status ⊎ (status ≡ 6)
    by (inl x) = absurd (b x)
    by (inr x) = absurd (c x)
complete_from told failed task status old new bytes f B C (inr (inr (inr (inr six)))) e accepted line fault a b c =
    inr six
