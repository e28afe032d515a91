use Rattle.std.proofs.Common.{slice_get, sym, ap, ◌∙◌, subst}
use Rattle.std.proofs.lemmas.Result.{IfOk-weaker}
use Rattle.loc_encode.specs.Tests.{IsTest}
use Rattle.loc_encode.specs.Layout.{is_sort}
use Rattle.loc_encode.specs.Shape.{has_sort}
use Rattle.loc_encode.specs.Claimed.{claim_in}
use Rattle.loc_encode.proofs.TestLemmas.{IsTest-truth, IsTest-same}
use Rattle.loc_encode.proofs.layout.Layout.has_sort.Goals as goal

pub returns-in-Input-clause-test : goal.returns-in-Input-clause-test
returns-in-Input-clause-test c =
    IfOk-weaker _ _ _ (λ id made.
    subst (λ s. IsTest (claim_in c.args.self.now) c.truth.new.terms id
    (λ g. has_sort (claim_in c.args.self.now) g c.args.sort s))
    (sym c.in-Input.is)
    (IsTest-same (claim_in c.args.self.now) _ id (λ g. c.is_sort.result)
    (λ g. is_sort (slice_get (claim_in c.args.self.now).goal.args c.in-Input.input) c.args.sort)
    (λ g. c.is_sort.ensures ∙ ap (λ o. is_sort o c.args.sort) c.input_sort.ensures)
    (IsTest-truth (claim_in c.args.self.now) _ _ id c.is_sort.result c.truth.ensures.extends made)))
    c.truth.ensures.made
