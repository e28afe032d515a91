-- What an operator is written out as is well-sorted where the operator may stand over its arguments.
use Rattle.std.proofs.Common.{IsOk, List, reverse, [], ◌∷◌, sym, subst}
use Rattle.bv_terms.specs.declared.op.Op.{Op}
use Rattle.bv_terms.specs.declared.op.TermId.{TermId}
use Rattle.bv_terms.specs.Table.{Table}
use Rattle.bv_terms.specs.declared.op.Op.TheVariants.{BvNot}
use Rattle.term_text.specs.declared.operator.Operator.{Operator}
use Rattle.term_text.specs.Written.{applied, left, written}
use Rattle.term_text.specs.Build.{terms_at, sorts_at, IsWellSorted}
use Rattle.term_text.proofs.WrittenLemmas.{extract-small, rotate-wide}
use Rattle.term_text.specs.Operator.{judge}
use Rattle.term_text.proofs.operator.Operator.make_written.Goals as goal

-- what the operator over these nodes is written out as is well-sorted
abbrev IsWellWritten : Table → List TermId → Operator → Type 0
IsWellWritten table ids o = IsWellSorted table (written o (sorts_at table ids) (terms_at table ids))

-- the operator may stand over these nodes
abbrev MayStand : Table → List TermId → Operator → Type 0
MayStand table ids o = IsOk (judge table.pointer o (sorts_at table ids))

pub make_fitting-requires-clause-sorted : goal.make_fitting-requires-clause-sorted
make_fitting-requires-clause-sorted c =
    let table = c.args.terms.now in
    let ids = c.args.args.now in
    subst (IsWellWritten table ids) c.in-Operation.is c.requires.sorted

pub left-requires-clause-sorted : goal.left-requires-clause-sorted
left-requires-clause-sorted c =
    let table = c.args.terms.now in
    let ids = c.args.args.now in
    subst (λ (o : Op). IsWellSorted table (left o (terms_at table ids))) (sym c.operation.ensures)
    (subst (IsWellWritten table ids) c.in-Left.is c.requires.sorted)

pub right-requires-clause-sorted : goal.right-requires-clause-sorted
right-requires-clause-sorted c =
    let table = c.args.terms.now in
    let ids = c.args.args.now in
    subst (IsWellWritten table ids) c.in-Implies.is c.requires.sorted

pub inverted-requires-clause-sorted : goal.inverted-requires-clause-sorted
inverted-requires-clause-sorted c =
    let table = c.args.terms.now in
    let ids = c.args.args.now in
    subst (λ (o : Op). IsWellSorted table (applied BvNot (applied o (terms_at table ids) ∷ [])))
    (sym c.operation-in-Inverted.ensures)
    (subst (IsWellWritten table ids) c.in-Inverted.is c.requires.sorted)

pub exchanged-requires-clause-sorted : goal.exchanged-requires-clause-sorted
exchanged-requires-clause-sorted c =
    let table = c.args.terms.now in
    let ids = c.args.args.now in
    subst (λ (o : Op). IsWellSorted table (applied o (reverse (terms_at table ids))))
    (sym c.operation-in-Exchanged.ensures)
    (subst (IsWellWritten table ids) c.in-Exchanged.is c.requires.sorted)

pub chained-requires-clause-sorted : goal.chained-requires-clause-sorted
chained-requires-clause-sorted c =
    let table = c.args.terms.now in
    let ids = c.args.args.now in
    subst (IsWellWritten table ids) c.in-Equal.is c.requires.sorted

pub distinct-requires-clause-sorted : goal.distinct-requires-clause-sorted
distinct-requires-clause-sorted c =
    let table = c.args.terms.now in
    let ids = c.args.args.now in
    subst (IsWellWritten table ids) c.in-Distinct.is c.requires.sorted

pub compared-requires-clause-sorted : goal.compared-requires-clause-sorted
compared-requires-clause-sorted c =
    let table = c.args.terms.now in
    let ids = c.args.args.now in
    subst (IsWellWritten table ids) c.in-BvComp.is c.requires.sorted

pub divided-requires-clause-sorted : goal.divided-requires-clause-sorted
divided-requires-clause-sorted c =
    let table = c.args.terms.now in
    let ids = c.args.args.now in
    subst (IsWellWritten table ids) c.in-Signed.is c.requires.sorted

pub extracted-requires-clause-sorted : goal.extracted-requires-clause-sorted
extracted-requires-clause-sorted c =
    let table = c.args.terms.now in
    let ids = c.args.args.now in
    subst (IsWellWritten table ids) c.in-Extract.is c.requires.sorted

pub extended-requires-clause-sorted : goal.extended-requires-clause-sorted
extended-requires-clause-sorted c =
    let table = c.args.terms.now in
    let ids = c.args.args.now in
    subst (IsWellWritten table ids) c.in-ZeroExtend.is c.requires.sorted

pub sign_extended-requires-clause-sorted : goal.sign_extended-requires-clause-sorted
sign_extended-requires-clause-sorted c =
    let table = c.args.terms.now in
    let ids = c.args.args.now in
    subst (IsWellWritten table ids) c.in-SignExtend.is c.requires.sorted

pub rotated_left-requires-clause-sorted : goal.rotated_left-requires-clause-sorted
rotated_left-requires-clause-sorted c =
    let table = c.args.terms.now in
    let ids = c.args.args.now in
    subst (IsWellWritten table ids) c.in-RotateLeft.is c.requires.sorted

pub rotated_right-requires-clause-sorted : goal.rotated_right-requires-clause-sorted
rotated_right-requires-clause-sorted c =
    let table = c.args.terms.now in
    let ids = c.args.args.now in
    subst (IsWellWritten table ids) c.in-RotateRight.is c.requires.sorted

pub repeated-requires-clause-sorted : goal.repeated-requires-clause-sorted
repeated-requires-clause-sorted c =
    let table = c.args.terms.now in
    let ids = c.args.args.now in
    subst (IsWellWritten table ids) c.in-Repeat.is c.requires.sorted

pub extracted-requires-clause-high : goal.extracted-requires-clause-high
extracted-requires-clause-high c =
    let table = c.args.terms.now in
    let ids = c.args.args.now in
    (extract-small table c.requires.table c.in-Extract.high c.in-Extract.low ids c.requires.nodes
    (subst (MayStand table ids) c.in-Extract.is c.requires.fits)).0

pub extracted-requires-clause-low : goal.extracted-requires-clause-low
extracted-requires-clause-low c =
    let table = c.args.terms.now in
    let ids = c.args.args.now in
    (extract-small table c.requires.table c.in-Extract.high c.in-Extract.low ids c.requires.nodes
    (subst (MayStand table ids) c.in-Extract.is c.requires.fits)).1

pub rotated_left-requires-clause-wide : goal.rotated_left-requires-clause-wide
rotated_left-requires-clause-wide c =
    let table = c.args.terms.now in
    let ids = c.args.args.now in
    rotate-wide table c.requires.table c.in-RotateLeft.by ids c.requires.nodes
    (subst (MayStand table ids) c.in-RotateLeft.is c.requires.fits)

pub rotated_right-requires-clause-wide : goal.rotated_right-requires-clause-wide
rotated_right-requires-clause-wide c =
    let table = c.args.terms.now in
    let ids = c.args.args.now in
    rotate-wide table c.requires.table c.in-RotateRight.by ids c.requires.nodes
    (subst (MayStand table ids) c.in-RotateRight.is c.requires.fits)
