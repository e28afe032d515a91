use Rattle.std.proofs.Common.{arith}
use Rattle.std.proofs.lemmas.Grind.{common_steps}
use Rattle.isel_base.specs.declared.reading.ReadAllFault.{ReadAllFault}
use Rattle.isel_base.proofs.Told.{told_more}
use Rattle.isel_base.proofs.reading.read_next.Goals as goal

pub returns-clause-told : goal.returns-clause-told
returns-clause-told g c =
    told_more ReadAllFault
    (g.F.Files.bytes c.args.files.now c.args.name.now) c.args.got.now.items c.read.new.into _ c.in-Ok.count _
    (omega (arith, c.in-Ok.ensures.within)) (omega (arith, c.read.auto.into))
    (grind (arith, common_steps, c.in_ok-extend_from_slice.ensures.items))
    (omega (arith, c.args.got.now.ok.0, c.len-place.ensures)) c.in-Ok.ensures.told
