use Rattle.std.proofs.Common.{◌≤◌, Ok, Err, length, subst, arith, rules}
use Rattle.std.proofs.lemmas.Grind.{common_steps}
use Rattle.isel_base.specs.Fakes.{MemoryFiles}
use Rattle.isel_base.proofs.FakeLemmas.{steady, stays_from, told}
use Rattle.isel_base.proofs.fakes.MemFilesFiles.read.Goals as goal

pub returns-then-fails-clause-leaves : goal.returns-then-fails-clause-leaves
returns-then-fails-clause-leaves c = first_of (search rules, grind (arith, common_steps))

pub returns-then-fails-clause-gives : goal.returns-then-fails-clause-gives
returns-then-fails-clause-gives c = first_of (search rules, grind (arith, common_steps))

pub returns-then-fails-clause-steady : goal.returns-then-fails-clause-steady
returns-then-fails-clause-steady c =
    steady c.args.self.now c.args.name.now c.args.place (length c.args.into.now) (Err (record {})) c.args.into.now
    (returns-then-fails-clause-gives c)

pub returns-then-fails-clause-stays : goal.returns-then-fails-clause-stays
returns-then-fails-clause-stays c = stays_from c.args.self.now _ c.args.name.now (returns-then-fails-clause-leaves c)

pub returns-in_default-clause-leaves : goal.returns-in_default-clause-leaves
returns-in_default-clause-leaves c = first_of (search rules, grind (arith, common_steps))

pub returns-in_default-clause-gives : goal.returns-in_default-clause-gives
returns-in_default-clause-gives c = first_of (search rules, grind (arith, common_steps))

pub returns-in_default-clause-steady : goal.returns-in_default-clause-steady
returns-in_default-clause-steady c =
    steady c.args.self.now c.args.name.now c.args.place (length c.args.into.now) (Err (record {})) c.read_named.new.into
    (returns-in_default-clause-gives c)

pub returns-in_default-clause-stays : goal.returns-in_default-clause-stays
returns-in_default-clause-stays c = stays_from c.args.self.now _ c.args.name.now (returns-in_default-clause-leaves c)

pub returns-clause-leaves : goal.returns-clause-leaves
returns-clause-leaves c = first_of (search rules, grind (arith, common_steps))

pub returns-clause-gives : goal.returns-clause-gives
returns-clause-gives c = first_of (search rules, grind (arith, common_steps))

pub returns-clause-told : goal.returns-clause-told
returns-clause-told c =
    let P : MemoryFiles → Type 0 = λ s. 1 ≤ s.step in
    told c.args.self.now c.args.name.now c.args.place (length c.args.into.now)
    (Ok c.in-Some.count) c.read_named.new.into
    (subst P c.self.view_is c.self.invariant) c.read_named.auto.into (returns-clause-gives c)

pub returns-clause-stays : goal.returns-clause-stays
returns-clause-stays c = stays_from c.args.self.now _ c.args.name.now (returns-clause-leaves c)
