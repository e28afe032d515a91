use Rattle.std.proofs.Common.{◌≡◌, ◌∙◌, sym, subst, arith, length}
use Rattle.cdcl_watch.specs.Lists.{watchers}
use Rattle.cdcl_watch.specs.Watches.{AreLists}
use Rattle.cdcl_watch.proofs.AttachLemmas.{AreLists-watched}
use Rattle.cdcl_watch.proofs.attach.watch.Goals as goal

pub returns-clause-lists : goal.returns-clause-lists
returns-clause-lists c = λ cs next h.
    let ps = c.args.pairs.now.items in
    let number : c.len-number.result ≡ length c.args.pairs.now.items =
    omega (arith, c.len-number.ensures, c.args.pairs.now.ok.0) in
    subst (λ x. AreLists cs x (watchers c.push-2.new.self)) (sym c.in_ok-push-3.ensures.items)
    (AreLists-watched cs ps (watchers c.args.lists.now) (watchers c.push.new.self) (watchers c.push-2.new.self)
    (record { first = c.args.first; second = c.args.second }) c.args.short c.new.result c.new-2.result next
    (record {
      number = c.new.ensures.number ∙ number;
      short = c.new.ensures.short;
      blocker = c.new.ensures.blocker;
    })
    (record {
      number = c.new-2.ensures.number ∙ number;
      short = c.new-2.ensures.short;
      blocker = c.new-2.ensures.blocker;
    })
    c.in_ok-push.ensures.lists c.in_ok-push-2.ensures.lists h)
