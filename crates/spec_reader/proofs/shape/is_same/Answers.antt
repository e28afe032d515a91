use Rattle.spec_reader.proofs.SubtermNodes.{same-nodes}
use Rattle.spec_reader.proofs.shape.is_same.Goals as goal

pub returns : goal.returns
returns c = same-nodes c.args.terms.now c.len-size.ensures.table c.args.first c.args.second c.requires.first_in
    c.requires.second_in
