use Rattle.std.proofs.Common.{[], ap, ◌∙◌, Vec, Global}
use Rattle.cdcl_watch.specs.declared.lists.Watcher.{Watcher}
use Rattle.cdcl_watch.proofs.ListLemmas.{put-lists}
use Rattle.cdcl_watch.proofs.lists.Lists.take.Goals as goal

pub returns-clause-lists : goal.returns-clause-lists
returns-clause-lists c =
    put-lists c.self.inside.lists.items c.args.self.now c.args.lit c.code-place.result c.replace.new.dest []
    c.self.view_is c.code-place.ensures.code c.requires
    (ap (λ (v : Vec Watcher Global). v.items) c.replace.ensures.after ∙ c.new.ensures.items)
