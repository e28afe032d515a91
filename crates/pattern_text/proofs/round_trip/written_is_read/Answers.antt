use Rattle.pattern_text.proofs.WrittenLibrary.{written-is-read}
use Rattle.pattern_text.proofs.round_trip.written_is_read.Goals as goal

pub returns : goal.returns
returns c = written-is-read c.args.spec.now c.args._answers.now c.len.ensures.table
