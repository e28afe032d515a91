use Rattle.std.proofs.Common.{length, not, ap, ◌∙◌}
use Rattle.circuit.proofs.GrowthLemmas.{grows-then, signal-grows}
use Rattle.word_circuits.specs.Word.{word_number}
use Rattle.word_circuits.proofs.WordLemmas.{word-grows, word-as}
use Rattle.word_circuits.proofs.QuotientLemmas.{not-less, reduced-number}
use Rattle.word_circuits.proofs.quotients.reduced.Goals as goal

pub returns-clause-grows : goal.returns-clause-grows
returns-clause-grows c =
    grows-then c.in_ok-less.ensures.grows (grows-then c.in_ok-left.ensures.grows c.in_ok-rest.ensures.grows)

pub returns-clause-digit : goal.returns-clause-digit
returns-clause-digit c =
    let below = signal-grows (grows-then c.in_ok-left.ensures.grows c.in_ok-rest.ensures.grows) _ _
    c.in_ok-less.ensures.value in
    record {
      over = (c.opposite.ensures.over (length c.select.new.circuit.gates)).1 below.over;
      value =
          λ v h. c.opposite.ensures.value v ∙ ap not (below.value v h)
          ∙ not-less (word_number v c.args.word.now) (word_number v c.args.divisor.now);
    }

pub returns-clause-rest : goal.returns-clause-rest
returns-clause-rest c =
    word-as c.in_ok-rest.ensures.word _
    (reduced-number c.args.word.now c.args.divisor.now c.in_ok-left.left c.as_slice.result.now c.in_ok-less.less
    (signal-grows (grows-then c.in_ok-left.ensures.grows c.in_ok-rest.ensures.grows) _ _ c.in_ok-less.ensures.value)
    (word-grows c.in_ok-rest.ensures.grows c.in_ok-left.ensures.word) c.as_slice.ensures)
