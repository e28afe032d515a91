use Rattle.std.proofs.Common.{refl}
use Rattle.sexp_read.proofs.ReaderLemmas.{reads-comment, reads-line-feed}
use Rattle.sexp_read.proofs.reader.Reader.step_comment.Goals as goal

pub returns-in-LineFeed : goal.returns-in-LineFeed
returns-in-LineFeed c =
    λ place. reads-line-feed c.args.self.now _ c.args.class place c.requires c.in-LineFeed.is refl refl

pub returns-in_default : goal.returns-in_default
returns-in_default c = λ place. reads-comment c.args.self.now c.args.class place c.requires c.in_default.not-LineFeed
