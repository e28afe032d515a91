use Rattle.std.proofs.Common.{[], ◌∷◌, ◌++◌}
use Rattle.std.specs.String.{string_bytes}
use Rattle.isel_spec.proofs.NameLists.{goal-is_new}
use Rattle.isel_spec.proofs.SpecBuilding.{same_goals, on_err_always}
use Rattle.isel_spec.proofs.SpecLemmas.{sound_file}
use Rattle.isel_spec.proofs.spec.Spec.add_goal.Goals as goal

pub insert-requires : goal.insert-requires
insert-requires c =
    let s = c.args.self.now in
    let whole = sound_file s.pointer s.terms s.ops (s.goals ++ (string_bytes c.args.name, c.args.def) ∷ [])
    c.requires.sound in
    goal-is_new s.ops s.goals (string_bytes c.args.name, c.args.def) whole.apart

pub returns-in_err-insert-clause-err : goal.returns-in_err-insert-clause-err
returns-in_err-insert-clause-err c =
    let s = c.args.self.now in
    on_err_always c.from_residual.result
    (same_goals s.pointer s.terms s.ops c.insert.new.self s.goals _ s.sound c.in_err-insert.ensures.err)

pub returns-clause-ok : goal.returns-clause-ok
returns-clause-ok c =
    let s = c.args.self.now in (
      c.requires.sound,
      same_goals s.pointer s.terms s.ops c.insert.new.self (s.goals ++ (string_bytes c.args.name, c.args.def) ∷ []) _
          c.requires.sound c.in_ok-insert.ensures.ok,
    )
