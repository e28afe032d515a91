use Rattle.std.proofs.Common.{◌++◌, ◌∷◌, [], refl}
use Rattle.cegis_loop.proofs.ProgressLemmas.{progress-refuted, progress-same}
use Rattle.cegis_loop.proofs.search.refuted.Goals as goal

pub returns-clause-searching : goal.returns-clause-searching
returns-clause-searching c =
    let old = c.args.search in
    let e = old.finder.encoded in
    let new = c.in_ok-finder.finder.encoded in
    let p = c.args.pattern in
    let x = c.args.example in
    record {
      finder = c.in_ok-finder.ensures.right;
      tests = c.requires.searching.tests;
      progress = λ k is.
          progress-same k (e.examples ++ x ∷ []) new.examples e.blocked new.blocked (old.candidates ++ p ∷ [])
          c.push.new.self old.found old.found c.in_ok-finder.ensures.examples c.in_ok-finder.ensures.blocked
          c.in_ok-push.ensures.ok refl
          (progress-refuted k e.examples e.blocked old.candidates old.found p x (c.requires.searching.progress k is)
          (c.requires.candidate k is) (c.requires.differs k is));
    }
