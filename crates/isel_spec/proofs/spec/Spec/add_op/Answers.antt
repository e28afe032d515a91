use Rattle.std.proofs.Common.{[], ◌∷◌, ◌++◌}
use Rattle.std.specs.String.{string_bytes}
use Rattle.isel_spec.proofs.NameLists.{op-is_new}
use Rattle.isel_spec.proofs.SpecBuilding.{same_ops, on_err_always}
use Rattle.isel_spec.proofs.SpecLemmas.{sound_file}
use Rattle.isel_spec.proofs.spec.Spec.add_op.Goals as goal

pub insert-requires : goal.insert-requires
insert-requires c =
    let s = c.args.self.now in
    let whole = sound_file s.pointer s.terms (s.ops ++ (string_bytes c.args.name, c.args.def) ∷ []) s.goals
    c.requires.sound in
    op-is_new s.ops s.goals (string_bytes c.args.name, c.args.def) whole.apart

pub returns-in_err-insert-clause-err : goal.returns-in_err-insert-clause-err
returns-in_err-insert-clause-err c =
    let s = c.args.self.now in
    on_err_always c.from_residual.result
    (same_ops s.pointer s.terms s.goals c.insert.new.self s.ops _ s.sound c.in_err-insert.ensures.err)

pub returns-clause-ok : goal.returns-clause-ok
returns-clause-ok c =
    let s = c.args.self.now in (
      c.requires.sound,
      same_ops s.pointer s.terms s.goals c.insert.new.self (s.ops ++ (string_bytes c.args.name, c.args.def) ∷ []) _
          c.requires.sound c.in_ok-insert.ensures.ok,
    )
