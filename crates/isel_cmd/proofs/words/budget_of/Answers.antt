use Rattle.std.proofs.Common.{◌^◌, arith}
use Rattle.isel_cmd.proofs.NumberLemmas.{all-said, none-said}
use Rattle.isel_cmd.proofs.words.budget_of.Goals as goal

pub returns-clause-some : goal.returns-clause-some
returns-clause-some c =
    all-said 1 (2 ^ 32) c.args.word.now c.as_bytes.result.now c.numeral_between.result (omega arith)
    c.as_bytes.ensures.value c.numeral_between.ensures.value

pub returns-clause-none : goal.returns-clause-none
returns-clause-none c =
    none-said 1 (2 ^ 32) c.args.word.now c.as_bytes.result.now c.numeral_between.result (omega arith)
    c.as_bytes.ensures.value c.numeral_between.ensures.value
