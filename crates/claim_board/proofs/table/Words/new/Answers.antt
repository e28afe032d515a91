use Rattle.std.proofs.Common.{arith, length}
use Rattle.multiset_rank.specs.Claims.{claims}
use Rattle.claim_board.proofs.RuleLemmas.{kept-opening}
use Rattle.claim_board.proofs.table.Words.new.Goals as goal

pub of_words-requires : goal.of_words-requires
of_words-requires c =
    let same = c.claims-claims.ensures.length in
    let most = c.claims-claims.ensures.most in
    let workers = c.requires.most in
    kept-opening (length (claims c.args.task.now.plan)) c.args.task.now.workers c.requires.some
    (omega (arith, same, most, workers))
