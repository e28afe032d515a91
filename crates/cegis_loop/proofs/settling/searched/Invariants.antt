use Rattle.std.proofs.Common.{◌≡◌, length}
use Rattle.cegis_loop.specs.Search.{IsSearching}
use Rattle.cegis_loop.proofs.settling.searched.Given as goal

abbrev pub invariant-loop-done : goal.invariant-loop-done
invariant-loop-done l = record {
  searching : IsSearching l.spec l.goal l.multi l.state;
  done : length l.state.candidates ≡ l._done;
}
