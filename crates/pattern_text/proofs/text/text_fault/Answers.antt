use Rattle.sexp_read.specs.declared.fault.SexpFault.TheVariants.{Unclosed, Stray, Deep}
use Rattle.pattern_text.proofs.FaultPlaceLemmas.{stands-within, not-unclosed, not-stray, not-deep}
use Rattle.pattern_text.proofs.text.text_fault.Goals as goal

pub byte_fault-requires-in-Unclosed : goal.byte_fault-requires-in-Unclosed
byte_fault-requires-in-Unclosed c =
    let place = c.in-Unclosed.place in
    stands-within c.args.bytes.now c.args.fault (Unclosed place) (not-unclosed place) c.requires c.in-Unclosed.is

pub byte_fault-requires-in-Stray : goal.byte_fault-requires-in-Stray
byte_fault-requires-in-Stray c =
    let place = c.in-Stray.place in
    stands-within c.args.bytes.now c.args.fault (Stray place) (not-stray place) c.requires c.in-Stray.is

pub byte_fault-requires-in-Deep : goal.byte_fault-requires-in-Deep
byte_fault-requires-in-Deep c =
    let place = c.in-Deep.place in
    stands-within c.args.bytes.now c.args.fault (Deep place) (not-deep place) c.requires c.in-Deep.is
