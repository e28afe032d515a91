use Rattle.std.proofs.Common.{refl}
use Rattle.cdcl_watch.proofs.ListLemmas.{put-lists}
use Rattle.cdcl_watch.proofs.lists.Lists.put.Goals as goal

pub returns-clause-lists : goal.returns-clause-lists
returns-clause-lists c =
    put-lists c.self.inside.lists.items c.args.self.now c.args.lit c.code-place.result c.args.list c.args.list.items
    c.self.view_is c.code-place.ensures.code c.requires refl
