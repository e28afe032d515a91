use Rattle.std.proofs.Common.{◌+◌, sym, subst}
use Rattle.bit_blast.specs.Operations.{IsBitOfInput, IsInputWord}
use Rattle.bit_blast.proofs.MoveLemmas.{widens-itself, widens-then}
use Rattle.bit_blast.proofs.InputLemmas.{lists-widens, IsInputWord-none, IsInputWord-more}
use Rattle.bit_blast.proofs.word.input_word.Goals as goal

pub loop-bit-init : goal.loop-bit-init
loop-bit-init c = record {
  widens = widens-itself (IsBitOfInput c.args.number c.args.width) c.args.circuit.now c.requires;
  word = subst (IsInputWord c.args.circuit.now c.args.number 0) (sym c.new-word.ensures)
      (IsInputWord-none c.args.circuit.now c.args.number);
}

pub input-requires : goal.input-requires
input-requires c = record { netlist = c.loop-bit.invariant.widens.netlist }

pub loop-bit-preserved : goal.loop-bit-preserved
loop-bit-preserved c =
    let P = IsBitOfInput c.args.number c.args.width in
    let step = lists-widens c.args.number c.loop-bit.bit c.args.width c.loop-bit.circuit c.input.new.self
    c.loop-bit.invariant.widens.netlist c.loop-bit-test.true c.in_ok-signal.ensures.lists in
    record {
      widens = widens-then P c.args.circuit.now c.loop-bit.circuit c.input.new.self c.loop-bit.invariant.widens step;
      word = subst (IsInputWord c.input.new.self c.args.number (c.loop-bit.bit + 1)) (sym c.in_ok-push.ensures.ok)
          (IsInputWord-more P c.loop-bit.circuit c.input.new.self c.args.number c.loop-bit.bit c.loop-bit.word
          c.in_ok-signal.signal step c.loop-bit.invariant.word c.in_ok-signal.ensures.over
          c.in_ok-signal.ensures.variable);
    }
