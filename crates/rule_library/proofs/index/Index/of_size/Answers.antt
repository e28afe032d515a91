use Rattle.std.proofs.Common.{◌≡◌, ℕ, arith, Some, slice_get, get_or}
use Rattle.std.proofs.lemmas.Option.{slice_get-get_or}
use Rattle.claim_outcome.specs.declared.outcome.Outcome.{Outcome}
use Rattle.rule_library.specs.Book.{IsEntry}
use Rattle.rule_library.proofs.FoundLemmas.{among-more, open-more, AreFound-from_among, open-after}
use Rattle.rule_library.proofs.index.Index.of_size.Goals as goal

pub loop-number-preserved : goal.loop-number-preserved
loop-number-preserved c =
    let i = c.args.self.now in
    let kinds = c.kinds-kinds.result in
    let ops = c.unrank-multi.result in
    let u : ℕ × Outcome = get_or i.book.now c.place.result c.index-self-place.result in
    let o : Outcome = u.1 in
    let at : slice_get i.book.now c.place.result ≡ Some u =
    slice_get-get_or i.book.now c.place.result c.index-self-place.result c.place.ensures.there in
    let entry : IsEntry i.plan i.book.now c.args.goal ops o = c.place.ensures.entry u.0 o at in
    record {
      rules =
          among-more i.plan i.book.now c.args.goal kinds c.args.size c.loop-number.number ops o
          c.loop-number.rules.items c.as_slice.result.now c.add_copies.new.rules.items c.as_slice.ensures
          c.in_ok-add_copies.ensures c.requires.index.book c.requires.index.sorted entry
          c.unrank-multi.ensures.place.there c.loop-number.invariant.rules;
      undecided =
          open-more i.plan i.book.now c.args.goal kinds c.args.size c.loop-number.number ops o
          c.loop-number.undecided.items c.note_open.new.undecided.items c.in_ok-note_open.ensures
          c.requires.index.book entry c.unrank-multi.ensures.size c.unrank-multi.ensures.place.there
          c.loop-number.invariant.undecided;
    }

pub returns-clause-rules : goal.returns-clause-rules
returns-clause-rules c =
    let i = c.args.self.now in
    let past = c.loop-number-test.false in
    let size = c.count-number-end.ensures.length in
    AreFound-from_among i.plan i.book.now c.args.goal c.kinds-kinds.result c.args.size c.loop-number.number
    c.loop-number.rules.items c.kinds-kinds.ensures.value c.requires.index.sorted (omega (arith, past, size))
    c.loop-number.invariant.rules

pub returns-clause-after : goal.returns-clause-after
returns-clause-after c =
    let i = c.args.self.now in
    let past = c.loop-number-test.false in
    let size = c.count-number-end.ensures.length in
    open-after i.plan i.book.now c.args.goal c.kinds-kinds.result c.args.size c.loop-number.number
    c.loop-number.undecided.items c.kinds-kinds.ensures.value (omega (arith, past, size))
    c.loop-number.invariant.undecided
