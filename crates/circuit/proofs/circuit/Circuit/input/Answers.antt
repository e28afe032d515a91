use Rattle.std.proofs.Common.{ℕ, [], ◌∷◌, ◌++◌, refl, sym, ap, ◌∙◌, Some}
use Rattle.circuit.specs.declared.gate.Gate.TheVariants.{Input}
use Rattle.circuit.specs.declared.signal.Signal.TheVariants.{Literal}
use Rattle.circuit.proofs.GateLemmas.{gate_eq-sound, lists-found, lists-added, stands-added, was-found, was-missing}
use Rattle.circuit.proofs.circuit.Circuit.input.Goals as goal

pub returns-then-not-added-clause-lists : goal.returns-then-not-added-clause-lists
returns-then-not-added-clause-lists c =
    lists-found _ c.args.self.now _ c.args.number c.args.bit c.self.view_is c.requires.netlist
    c.in_ok-place.ensures.keys (was-found _ _ c.in_ok-place.ensures.added c.if-not-added.true) refl refl

pub returns-then-not-added-clause-variable : goal.returns-then-not-added-clause-variable
returns-then-not-added-clause-variable c =
    let stored = c.in_ok-place.ensures.stored in (
      c.in_ok-place.place,
      stored.1 ∙ ap Some (sym (gate_eq-sound (Input c.args.number c.args.bit) stored.0 stored.2)),
      ap Literal c.variable.ensures,
    )

pub returns-clause-lists : goal.returns-clause-lists
returns-clause-lists c =
    lists-added _ c.args.self.now _ c.args.number c.args.bit c.self.view_is c.requires.netlist
    c.in_ok-place.ensures.keys (was-missing _ _ c.in_ok-place.ensures.added c.if-not-added.false)
    c.in_ok-place-2.ensures.clauses c.in_ok-place-2.ensures.input
    (c.in_ok-push.ensures.ok
    ∙ ap (λ (n : ℕ). c.self.inside.blasted.bits ++ (c.args.number, c.args.bit, n) ∷ []) c.in_ok-place-2.ensures.number)

pub returns-clause-variable : goal.returns-clause-variable
returns-clause-variable c = (
  c.in_ok-place-2.place,
  stands-added _ c.args.self.now _ (Input c.args.number c.args.bit) c.in_ok-place-2.place c.self.view_is
      c.requires.netlist c.in_ok-place.ensures.keys
      (was-missing _ _ c.in_ok-place.ensures.added c.if-not-added.false) c.in_ok-place-2.ensures.number,
  ap Literal c.variable-2.ensures,
)
