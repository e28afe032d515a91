use Rattle.std.proofs.Common.{◌≡◌, ◌∙◌, Some, ap, sym}
use Rattle.isel_spec.specs.Memory.{has_plain_pointers, accessed_bytes}
use Rattle.term_text.specs.Build.{terms_at}
use Rattle.spec_reader.specs.Accesses.{accesses_by}
use Rattle.spec_reader.specs.Parts.{parts_by}
use Rattle.spec_reader.proofs.AccessLemmas.{goal-plain, goal-bytes, are_plain_by, bytes_by}
use Rattle.spec_reader.proofs.MemoryLemmas.{goal-reads, goal-bytes_fault}
use Rattle.spec_reader.proofs.memory.goal_fault.Goals as goal

pub returns-then-not-branch : goal.returns-then-not-branch
returns-then-not-branch c = λ tree results within are.
    let table = c.args.terms.now in
    let plain : has_plain_pointers (terms_at table results) ≡ c.in_ok-are_plain.field-0 =
    goal-plain table c.len-size.ensures.table results c.args.nodes.now within are c.in_ok-accesses.accesses.items
    c.in_ok-accesses.ensures.value
    ∙ ap (λ found. are_plain_by (accesses_by table found)) (sym c.as_slice.ensures.value)
    ∙ sym c.in_ok-are_plain.ensures in
    ap Some c.fault_at.ensures
    ∙ goal-reads (parts_by tree c.args.parts.now) (terms_at table results) c.args.span c.if-not-parts.false
    (plain ∙ c.if-not-branch.true)

pub returns : goal.returns
returns c = λ tree results within are.
    let table = c.args.terms.now in
    let found = c.in_ok-accesses.accesses.items in
    let plain : has_plain_pointers (terms_at table results) ≡ c.in_ok-are_plain.field-0 =
    goal-plain table c.len-size.ensures.table results c.args.nodes.now within are found c.in_ok-accesses.ensures.value
    ∙ ap (λ found. are_plain_by (accesses_by table found)) (sym c.as_slice.ensures.value)
    ∙ sym c.in_ok-are_plain.ensures in
    let bytes : c.accessed_bytes-bytes.result ≡ accessed_bytes (terms_at table results) =
    c.accessed_bytes-bytes.ensures
    ∙ ap (λ found. bytes_by (accesses_by table found)) c.as_slice-2.ensures.value
    ∙ sym (goal-bytes table c.len-size.ensures.table results c.args.nodes.now within are found
    c.in_ok-accesses.ensures.value) in
    c.above.ensures
    ∙ goal-bytes_fault (parts_by tree c.args.parts.now) (terms_at table results) c.args.span
    c.accessed_bytes-bytes.result c.if-not-parts.false (plain ∙ c.if-not-branch.false) bytes
