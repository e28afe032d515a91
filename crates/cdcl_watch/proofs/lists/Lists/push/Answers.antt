use Rattle.cdcl_watch.proofs.ListLemmas.{push-lists}
use Rattle.cdcl_watch.proofs.lists.Lists.push.Goals as goal

pub returns-clause-lists : goal.returns-clause-lists
returns-clause-lists c =
    push-lists c.self.inside.lists.items c.args.self.now c.args.lit c.code-place.result c.index_mut.result.now
    c.push.new.self c.args.watcher c.self.view_is c.code-place.ensures.code c.requires c.index_mut.ensures.value
    c.in_ok-push.ensures.items
