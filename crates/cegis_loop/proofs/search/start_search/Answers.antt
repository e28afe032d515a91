use Rattle.std.proofs.Common.{[]}
use Rattle.cegis_loop.proofs.ProgressLemmas.{progress-none, progress-same}
use Rattle.cegis_loop.proofs.search.start_search.Goals as goal

pub returns-clause-searching : goal.returns-clause-searching
returns-clause-searching c =
    let e = c.in_ok-finder.finder.encoded in
    record {
      finder = c.in_ok-finder.ensures.right;
      tests = c.in_ok-tests.ensures;
      progress = λ k is.
          progress-same k [] e.examples [] e.blocked [] c.new.result [] c.new-2.result c.in_ok-finder.ensures.examples
          c.in_ok-finder.ensures.blocked c.new.ensures c.new-2.ensures (progress-none k);
    }
