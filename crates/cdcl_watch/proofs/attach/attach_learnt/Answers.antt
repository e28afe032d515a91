use Rattle.std.proofs.Common.{◌∙◌, [], ◌∷◌, ◌++◌, sym, ap, subst, arith, length, refl}
use Rattle.std.proofs.lemmas.Result.{on_ok_weaker}
use Rattle.cnf_core.specs.Resolution.{clause}
use Rattle.cnf_core.proofs.Sets.{same_lit-itself}
use Rattle.cdcl_watch.specs.declared.propagation.Pair.{Pair}
use Rattle.cdcl_watch.specs.Lists.{watchers}
use Rattle.cdcl_watch.specs.Watches.{AreLists, IsPair}
use Rattle.cdcl_watch.proofs.AttachLemmas.{AreLists-single}
use Rattle.cdcl_watch.proofs.SearchSteps.{next-of, pair-none, pair-some}
use Rattle.cdcl_watch.proofs.attach.attach_learnt.Goals as goal

pub returns-then-keep-eq0-clause-pairs : goal.returns-then-keep-eq0-clause-pairs
returns-then-keep-eq0-clause-pairs c =
    c.in_ok-push.ensures.items
    ∙ ap (λ (p : Pair). c.args.pairs.now.items ++ p ∷ [])
    (sym (pair-none c.args.keep c.args.lit c.args.last_false c.if-keep-eq0.true))

pub returns-then-keep-eq0-clause-lists : goal.returns-then-keep-eq0-clause-lists
returns-then-keep-eq0-clause-lists c = λ cs there is h.
    subst (λ x. AreLists cs x (watchers c.args.lists.now)) (sym c.in_ok-push.ensures.items)
    (AreLists-single cs c.args.pairs.now.items (watchers c.args.lists.now)
    (record { first = c.args.lit; second = c.args.lit }) (clause c.args.learnt.now) there (same_lit-itself c.args.lit)
    h)

pub returns-clause-pairs : goal.returns-clause-pairs
returns-clause-pairs c =
    on_ok_weaker c.watch.result
    (λ e. e ∙ ap (λ (p : Pair). c.args.pairs.now.items ++ p ∷ [])
    (sym (pair-some c.args.keep c.args.lit c.args.last_false c.if-keep-eq0.false)))
    c.watch.ensures.pairs

pub returns-clause-lists : goal.returns-clause-lists
returns-clause-lists c =
    on_ok_weaker c.watch.result
    (λ attach cs there is h. attach cs
    (next-of cs c.args.pairs.now.items c.args.learnt.now
    (record { first = c.args.lit; second = c.args.last_false }) (length c.args.learnt.now) there
    (subst (IsPair c.args.learnt.now) (pair-some c.args.keep c.args.lit c.args.last_false c.if-keep-eq0.false)
    (is (omega (arith, c.if-keep-eq0.false)))) refl) h)
    c.watch.ensures.lists
