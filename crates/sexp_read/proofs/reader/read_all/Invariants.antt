use Rattle.sexp_read.specs.Progress.{HasRead}
use Rattle.sexp_read.proofs.reader.read_all.Given as goal

abbrev pub invariant-loop-place : goal.invariant-loop-place
invariant-loop-place l = HasRead l.bytes l.place l.reader
