use Rattle.isel_spec.specs.Spec.{file}
use Rattle.rule_library.proofs.FirstEntries.{AreFirst}
use Rattle.library_tests.proofs.tests.books.book_of.Given as goal

abbrev pub invariant-loop-number : goal.invariant-loop-number
invariant-loop-number l = AreFirst (file l.spec) l.fn.plan 0 l.number l.book.items
