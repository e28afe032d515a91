-- The kept sort is that of the node's term.
use Rattle.std.proofs.Common.{◌≡◌, Some, slice_get, sym, ap, ◌∙◌, subst, option_map}
use Rattle.std.specs.Map.Iter.{deref_pair}
use Rattle.bv_terms.specs.WellSorted.{sort_of}
use Rattle.bv_terms.specs.Table.{Table, term_at}
use Rattle.bv_terms.proofs.TermTableLemmas.{kept-sort}
use Rattle.bv_terms.proofs.terms.Terms.sort.Goals as goal

pub returns : goal.returns
returns c =
    let kept = c.self.inside.nodes.entries in
    let entry : slice_get kept c.args.at.0 ≡ Some (c.unwrap.result.0.now, c.unwrap.result.1.now) =
    sym c.get_index.ensures.entry ∙ ap (option_map deref_pair) c.unwrap.ensures in
    subst (λ (table : Table). sort_of table.pointer (term_at table c.args.at) ≡ Some c.unwrap.result.1.now)
    c.self.view_is
    (kept-sort c.self.inside.pointer kept c.self.invariant c.args.at.0
    (c.unwrap.result.0.now, c.unwrap.result.1.now) entry)
