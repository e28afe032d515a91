-- The nodes that were taken, in reverse, and those that are pending are a rising list.
use Rattle.std.proofs.Common.{◌∙◌, ◌<◌, [], ◌∷◌, List, length, reverse, sym, ap, subst}
use Rattle.bv_terms.specs.declared.op.TermId.{TermId}
use Rattle.bv_terms.specs.Table.{IsTable}
use Rattle.bv_terms.specs.Subterm.{keys_with}
use Rattle.bv_terms.proofs.CollectLemmas.{IsCollecting, IsCollecting-first, IsCollecting-step, IsCollecting-exact}
use Rattle.bv_terms.proofs.CollectLemmas.{IsCollecting-order, IsCollecting-end, last_taken, last_taken-less}
use Rattle.bv_terms.proofs.CollectLemmas.{pending-there, pending-within, reverse-push}
use Rattle.bv_terms.proofs.terms.Terms.subterms.Goals as goal

pub loop-at-init : goal.loop-at-init
loop-at-init c =
    let table = c.args.self.now in
    let results = c.args.results.now in
    subst (λ (ks : List TermId). IsCollecting table results ks (reverse c.new-found.result.items))
    (sym (c.in_ok-put_all.ensures ∙ ap (λ ks. keys_with ks results) c.new-pending.ensures.empty))
    (subst (λ (ts : List TermId). IsCollecting table results (keys_with [] results) (reverse ts))
    (sym c.new-found.ensures.items)
    (IsCollecting-first table results c.requires))

pub node-requires : goal.node-requires
node-requires c = pending-within c.args.self.now c.args.results.now _ _ _ c.in-Some.at c.loop-at.invariant
    c.in-Some.ensures.removal

pub loop-at-smaller : goal.loop-at-smaller
loop-at-smaller c =
    let n = length c.args.self.now.nodes in
    let taken = reverse c.loop-at.found.items in
    let now = ap reverse c.in_ok-push.ensures.items ∙ reverse-push c.loop-at.found.items c.in-Some.at in
    subst (λ (ts : List TermId). last_taken n ts < last_taken n taken) (sym now)
    (last_taken-less c.args.self.now c.args.results.now _ taken c.in-Some.at c.loop-at.invariant
    (pending-there _ _ c.in-Some.at c.in-Some.ensures.removal))

pub loop-at-preserved : goal.loop-at-preserved
loop-at-preserved c =
    let table = c.args.self.now in
    let results = c.args.results.now in
    let now = ap reverse c.in_ok-push.ensures.items ∙ reverse-push c.loop-at.found.items c.in-Some.at in
    subst (λ (ts : List TermId). IsCollecting table results c.put_all-in-Some.new.set.keys ts) (sym now)
    (subst (λ (ks : List TermId). IsCollecting table results ks (c.in-Some.at ∷ reverse c.loop-at.found.items))
    (sym c.in_ok-put_all-2.ensures)
    (IsCollecting-step table (subst IsTable c.self.view_is c.self.invariant.table) results c.loop-at.pending.keys _
    (reverse c.loop-at.found.items) c.in-Some.at _
    c.loop-at.invariant c.in-Some.ensures.removal c.in-Some.ensures.all_below c.node.ensures))

pub returns-clause-exact : goal.returns-clause-exact
returns-clause-exact c =
    IsCollecting-exact c.args.self.now (subst IsTable c.self.view_is c.self.invariant.table) c.args.results.now _
    (IsCollecting-end c.args.self.now c.args.results.now _ _ _ c.loop-at.invariant c.in_default.ensures.variant.1
    c.reverse.ensures.items)

pub returns-clause-order : goal.returns-clause-order
returns-clause-order c =
    IsCollecting-order c.args.self.now (subst IsTable c.self.view_is c.self.invariant.table) c.args.results.now _
    (IsCollecting-end c.args.self.now c.args.results.now _ _ _ c.loop-at.invariant c.in_default.ensures.variant.1
    c.reverse.ensures.items)

pub returns-clause-results : goal.returns-clause-results
returns-clause-results c =
    (IsCollecting-end c.args.self.now c.args.results.now _ _ _ c.loop-at.invariant c.in_default.ensures.variant.1
    c.reverse.ensures.items).has
