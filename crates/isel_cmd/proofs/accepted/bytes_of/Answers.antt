use Rattle.std.proofs.Common.{Err, ap}
use Rattle.isel_cmd.proofs.CauseLemmas.{too_long}
use Rattle.isel_cmd.proofs.accepted.bytes_of.Goals as goal

pub returns-in-Err-TooLong-clause-bytes : goal.returns-in-Err-TooLong-clause-bytes
returns-in-Err-TooLong-clause-bytes g c = λ bound.
    too_long (g.F.Files.bytes c.args.files.now c.args.name.now) _ (ap (λ e. Err e) c.in-Err-TooLong.field-0-is)
    c.in-Err-TooLong.ensures.long
