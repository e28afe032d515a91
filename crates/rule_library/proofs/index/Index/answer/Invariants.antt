use Rattle.rule_library.specs.Answer.{AreOpen}
use Rattle.rule_library.specs.Steps.{IsBelow}
use Rattle.rule_library.proofs.FoundLemmas.{NoneBelow}
use Rattle.rule_library.proofs.index.Index.answer.Given as goal

abbrev pub invariant-loop-size : goal.invariant-loop-size
invariant-loop-size l = record {
  none : NoneBelow l.self.plan l.self.book.now l.goal l.size;
  undecided : AreOpen l.self.plan l.self.book.now l.goal (IsBelow l.size) l.undecided.items;
}
