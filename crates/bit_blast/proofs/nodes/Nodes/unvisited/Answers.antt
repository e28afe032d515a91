use Rattle.std.proofs.Common.{◌∙◌, ◌<◌, [], ◌∷◌, List, All, refl, reverse, sym, ap, subst}
use Rattle.std.specs.BTreeSet.{insert_key}
use Rattle.bv_terms.proofs.CollectLemmas.{reverse-push}
use Rattle.bv_terms.specs.declared.op.TermId.{TermId}
use Rattle.bit_blast.specs.Words.{HasWord}
use Rattle.bit_blast.proofs.SetLemmas.{most-falls, none-left}
use Rattle.bit_blast.proofs.WalkLemmas.{IsVisiting, IsVisiting-first, IsVisiting-skip, IsVisiting-step, IsVisiting-end}
use Rattle.bit_blast.proofs.WalkLemmas.{id_cmp}
use Rattle.bit_blast.proofs.WalkLemmas.{pending-within, step-below, skip-below}
use Rattle.bit_blast.proofs.EntryLemmas.{has-found}
use Rattle.bit_blast.proofs.nodes.Nodes.unvisited.Goals as goal

pub loop-next-init : goal.loop-next-init
loop-next-init c =
    let table = c.args.terms.now in
    let root = c.args.root in
    subst (λ (ks : List TermId). IsVisiting table c.args.self.now root ks (reverse c.new-found.result.items))
    (sym (c.in_ok-insert.ensures.keys ∙ ap (λ ks. insert_key id_cmp ks root) c.new-pending.ensures.empty))
    (subst (λ (ts : List TermId). IsVisiting table c.args.self.now root (root ∷ []) (reverse ts))
    (sym c.new-found.ensures.items)
    (IsVisiting-first table c.args.self.now root c.requires.there))

pub node-requires : goal.node-requires
node-requires c = pending-within c.args.terms.now c.args.self.now c.args.root _ _ _ c.in-Some.next c.loop-next.invariant
    c.in-Some.ensures.removal

pub loop-next-smaller-then-contains_key : goal.loop-next-smaller-then-contains_key
loop-next-smaller-then-contains_key c =
    most-falls (λ (at : TermId). at.0) _ _ _ c.in-Some.next c.in-Some.ensures.removal
    (skip-below _ c.in-Some.next c.in-Some.ensures.all_below)

pub loop-next-preserved-then-contains_key : goal.loop-next-preserved-then-contains_key
loop-next-preserved-then-contains_key c =
    IsVisiting-skip c.args.terms.now c.args.self.now c.args.root _ _ _ c.in-Some.next c.loop-next.invariant
    c.in-Some.ensures.removal
    (subst (λ ws. HasWord ws c.in-Some.next) c.self.view_is
    (has-found c.in-Some.next _ (λ k. refl) _ (sym c.if-contains_key.ensures)))

pub loop-next-smaller : goal.loop-next-smaller
loop-next-smaller c =
    most-falls (λ (at : TermId). at.0) _ _ _ c.in-Some.next c.in-Some.ensures.removal
    (subst (λ (ks : List TermId). All (λ (q : TermId). q.0 < c.in-Some.next.0) ks) (sym c.in_ok-put_all.ensures)
    (step-below c.args.terms.now c.requires.table _ c.in-Some.next _ c.in-Some.ensures.all_below c.node.ensures))

pub loop-next-preserved : goal.loop-next-preserved
loop-next-preserved c =
    let table = c.args.terms.now in
    let now = ap reverse c.in_ok-push.ensures.items ∙ reverse-push c.loop-next.found.items c.in-Some.next in
    subst (λ (ts : List TermId). IsVisiting table c.args.self.now c.args.root c.put_all.new.set.keys ts) (sym now)
    (subst (λ (ks : List TermId). IsVisiting table c.args.self.now c.args.root ks
    (c.in-Some.next ∷ reverse c.loop-next.found.items))
    (sym c.in_ok-put_all.ensures)
    (IsVisiting-step table c.requires.table c.args.self.now c.args.root c.loop-next.pending.keys _
    (reverse c.loop-next.found.items) c.in-Some.next _
    c.loop-next.invariant c.in-Some.ensures.removal c.in-Some.ensures.all_below c.node.ensures))

pub returns : goal.returns
returns c =
    IsVisiting-end c.args.terms.now c.requires.table c.args.self.now c.args.root _ _ _ c.loop-next.invariant
    (none-left _ c.in_default.ensures.variant.1) c.reverse.ensures.items
