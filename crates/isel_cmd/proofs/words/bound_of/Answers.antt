use Rattle.std.proofs.Common.{sym, ◌∙◌, arith}
use Rattle.isel_cmd.proofs.NumberLemmas.{number-said, number-unsaid}
use Rattle.isel_cmd.proofs.words.bound_of.Goals as goal

pub returns-in-Some-clause-some : goal.returns-in-Some-clause-some
returns-in-Some-clause-some c =
    let said = number-said 0 6 c.in-Some.bound c.as_bytes.result.now (omega arith) (sym c.in-Some.ensures.value) in
    (sym c.as_bytes.ensures.value ∙ said.0, said.2)

pub returns-in-None-clause-none : goal.returns-in-None-clause-none
returns-in-None-clause-none c = λ bound most said.
    number-unsaid 0 6 bound c.as_bytes.result.now (omega arith) c.in-None.ensures.value (omega arith) most
    (c.as_bytes.ensures.value ∙ said)
