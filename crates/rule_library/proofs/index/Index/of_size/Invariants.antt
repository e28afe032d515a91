use Rattle.std.proofs.Common.{take}
use Rattle.multiset_rank.specs.Multisets.{multisets}
use Rattle.rule_library.specs.Answer.{AreOpen}
use Rattle.rule_library.proofs.FoundLemmas.{AreFoundAmong, IsSeen}
use Rattle.rule_library.proofs.index.Index.of_size.Given as goal

abbrev pub invariant-loop-number : goal.invariant-loop-number
invariant-loop-number l = record {
  rules : AreFoundAmong l.self.plan l.self.book.now l.goal (take l.number (multisets l.kinds l.size)) l.rules.items;
  undecided : AreOpen l.self.plan l.self.book.now l.goal (IsSeen l.size (take l.number (multisets l.kinds l.size)))
      l.undecided.items;
}
