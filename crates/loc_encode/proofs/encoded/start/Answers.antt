use Rattle.loc_encode.specs.declared.encoded.Encoded.{Encoded}
use Rattle.loc_encode.proofs.EncodedLemmas.{right-first}
use Rattle.loc_encode.proofs.encoded.start.Goals as goal

pub returns-clause-right : goal.returns-clause-right
returns-clause-right c = λ claim is.
    let first : Encoded =
    record {
      formula = c.in_ok-formula.formula;
      goal = c.args.goal;
      multi = c.args.multi.now;
      inputs = 1746;
      examples = c.new.result;
      blocked = c.new-2.result;
    } in
    right-first claim first c.shape.new.terms c.new.ensures c.new-2.ensures (c.in_ok-formula.ensures.shape claim is)
