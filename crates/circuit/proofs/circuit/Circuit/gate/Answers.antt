use Rattle.std.proofs.Common.{refl, sym, ap, ◌∙◌, Some}
use Rattle.circuit.specs.declared.signal.Signal.TheVariants.{Literal}
use Rattle.circuit.proofs.GateLemmas.{gate_eq-sound, grows-found, grows-added, stands-added, was-found, was-missing}
use Rattle.circuit.proofs.circuit.Circuit.gate.Goals as goal

pub returns-then-not-added-clause-grows : goal.returns-then-not-added-clause-grows
returns-then-not-added-clause-grows c =
    grows-found _ c.args.self.now _ c.args.gate c.self.view_is c.requires.netlist c.in_ok-number.ensures.keys
    (was-found _ _ c.in_ok-number.ensures.added c.if-not-added.true) refl refl

pub returns-then-not-added-clause-variable : goal.returns-then-not-added-clause-variable
returns-then-not-added-clause-variable c =
    let stored = c.in_ok-number.ensures.stored in (
      c.in_ok-number.number,
      stored.1 ∙ ap Some (sym (gate_eq-sound c.args.gate stored.0 stored.2)),
      ap Literal c.variable.ensures,
    )

pub returns-clause-grows : goal.returns-clause-grows
returns-clause-grows c =
    grows-added _ c.args.self.now _ c.args.gate c.self.view_is c.requires.netlist c.requires.function
    c.requires.gate
    c.in_ok-number.ensures.keys (was-missing _ _ c.in_ok-number.ensures.added c.if-not-added.false)
    c.in_ok-number-2.ensures.clauses refl

pub returns-clause-variable : goal.returns-clause-variable
returns-clause-variable c = (
  c.in_ok-number-2.number,
  stands-added _ c.args.self.now _ c.args.gate c.in_ok-number-2.number c.self.view_is c.requires.netlist
      c.in_ok-number.ensures.keys (was-missing _ _ c.in_ok-number.ensures.added c.if-not-added.false)
      c.in_ok-number-2.ensures.number,
  ap Literal c.variable-2.ensures,
)
