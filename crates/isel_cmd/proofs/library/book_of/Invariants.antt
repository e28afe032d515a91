use Rattle.isel_spec.specs.Spec.{file}
use Rattle.rule_library.proofs.FirstEntries.{AreFirst}
use Rattle.isel_cmd.proofs.library.book_of.Given as goal

abbrev pub invariant-loop-number : goal.invariant-loop-number
invariant-loop-number l = AreFirst (file l.spec) l.fn.plan l.budget l.number l.book.items
