use Rattle.cdcl_base.proofs.MarkLemmas.{listed-one}
use Rattle.cdcl_base.proofs.analysis.mark_one.Goals as goal

pub returns-clause-listed : goal.returns-clause-listed
returns-clause-listed c =
    listed-one c.args.marks.now c.args.marked.now.items c.push.new.self.items c.args.variable c.requires
    c.in_ok-push.ensures.items
