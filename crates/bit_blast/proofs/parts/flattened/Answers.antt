use Rattle.std.proofs.Common.{◌∙◌, ◌<◌, [], ◌∷◌, ◌++◌, List, All, sym, ap, subst}
use Rattle.std.specs.BTreeSet.{insert_key}
use Rattle.bit_blast.specs.declared.parts.Part.{Part}
use Rattle.bit_blast.specs.Parts.{AreParts}
use Rattle.bit_blast.proofs.SetLemmas.{most-falls, none-left}
use Rattle.bit_blast.proofs.PartLemmas.{part_cmp, rank, AreParts-first, AreParts-formula, AreParts-step, AreParts-found}
use Rattle.bit_blast.proofs.PartLemmas.{AreParts-end, found-below, step-below}
use Rattle.bit_blast.proofs.parts.flattened.Goals as goal

pub loop-next-init : goal.loop-next-init
loop-next-init c =
    let table = c.args.terms.now in
    let part = c.args.part in
    subst (λ (ks : List Part). AreParts table c.args.join part (ks ++ c.new-found.result.items))
    (sym (c.in_ok-insert.ensures.keys ∙ ap (λ ks. insert_key part_cmp ks part) c.new-pending.ensures.empty))
    (subst (λ (ps : List Part). AreParts table c.args.join part ((part ∷ []) ++ ps)) (sym c.new-found.ensures.items)
    (AreParts-first table c.args.join part c.requires.formula))

pub members-requires-clause-formula : goal.members-requires-clause-formula
members-requires-clause-formula c = AreParts-formula c.args.terms.now c.args.join c.args.part _ _ _ c.in-Some.next
    c.loop-next.invariant c.in-Some.ensures.removal

pub loop-next-smaller-in_default-members : goal.loop-next-smaller-in_default-members
loop-next-smaller-in_default-members c = most-falls rank _ _ _ c.in-Some.next c.in-Some.ensures.removal
    (found-below _ c.in-Some.next c.in-Some.ensures.all_below)

pub loop-next-preserved-in_default-members : goal.loop-next-preserved-in_default-members
loop-next-preserved-in_default-members c =
    subst (λ (ps : List Part). AreParts c.args.terms.now c.args.join c.args.part (c.pop_last.new.self.keys ++ ps))
    (sym c.in_ok-push.ensures.items)
    (AreParts-found c.args.terms.now c.args.join c.args.part _ _ c.loop-next.found.items c.in-Some.next
    c.loop-next.invariant c.in-Some.ensures.removal)

pub loop-next-smaller : goal.loop-next-smaller
loop-next-smaller c = most-falls rank _ _ _ c.in-Some.next c.in-Some.ensures.removal
    (subst (λ (ps : List Part). All (λ (q : Part). rank q < rank c.in-Some.next) ps)
    (sym (c.in_ok-insert-3.ensures.keys ∙ ap
    (λ ps. insert_key part_cmp ps c.in-Some-members.pair.1) c.in_ok-insert-2.ensures.keys))
    (step-below _ c.in-Some.next c.in-Some-members.pair.0 c.in-Some-members.pair.1 c.in-Some.ensures.all_below
    c.in-Some-members.ensures.left_smaller c.in-Some-members.ensures.right_smaller))

pub loop-next-preserved : goal.loop-next-preserved
loop-next-preserved c =
    subst (λ (ps : List Part). AreParts c.args.terms.now c.args.join c.args.part (ps ++ c.loop-next.found.items))
    (sym (c.in_ok-insert-3.ensures.keys ∙ ap
    (λ ps. insert_key part_cmp ps c.in-Some-members.pair.1) c.in_ok-insert-2.ensures.keys))
    (AreParts-step c.args.terms.now c.args.join c.args.part _ _ c.loop-next.found.items c.in-Some.next
    c.in-Some-members.pair.0 c.in-Some-members.pair.1 c.loop-next.invariant c.in-Some.ensures.removal
    c.in-Some-members.ensures)

pub returns : goal.returns
returns c = AreParts-end c.args.terms.now c.args.join c.args.part _ c.loop-next.found.items c.loop-next.invariant
    (none-left _ c.in_default.ensures.variant.1)
