use Rattle.std.proofs.Common.{List, sym, subst}
use Rattle.isel_spec.specs.Spec.{file}
use Rattle.pattern_core.specs.declared.pattern.Pattern.{Pattern}
use Rattle.plain_search.specs.Rules.{AreRulesOf}
use Rattle.library_tests.proofs.BookLemmas.{IsRight-from_rules}
use Rattle.library_tests.proofs.tests.books.outcome.Goals as goal

pub returns : goal.returns
returns c = λ g there.
    let f = file c.args.spec.now in
    IsRight-from_rules f g c.args.multi.now 0 c.from_vec.result
    (subst (λ (found : List Pattern). AreRulesOf f g c.args.multi.now found) (sym c.from_vec.ensures)
    (c.in_ok-found.ensures g there))
