-- The node stands in the list, so it is found, and the image beside it is its own.
use Rattle.std.proofs.Common.{◌≡◌, IfOk, subst, length}
use Rattle.std.specs.List.{HoldsAt}
use Rattle.std.specs.List.Sorted.{IsSearchInRange}
use Rattle.std.specs.Ordering.{nat_cmp}
use Rattle.std.specs.declared.cmp.Ordering.TheVariants.{Equal}
use Rattle.bv_terms.specs.declared.op.TermId.{TermId}
use Rattle.bv_terms.proofs.GraftLemmas.{search-finds, found-image}
use Rattle.bv_terms.proofs.graft.image_of.Goals as goal

pub unwrap-place-requires : goal.unwrap-place-requires
unwrap-place-requires c =
    search-finds c.args.nodes.now c.args.at c.binary_search.result c.requires.rising c.requires.listed
    c.binary_search.ensures.position

pub returns : goal.returns
returns c =
    let nodes = c.args.nodes.now in
    let within = subst (λ r. IsSearchInRange r (length nodes)) c.unwrap-place.ensures c.binary_search.ensures.bound in
    let here = subst (λ r. IfOk r (HoldsAt (λ (y : TermId). nat_cmp y.0 c.args.at.0 ≡ Equal) nodes))
    c.unwrap-place.ensures c.binary_search.ensures.ok in
    found-image nodes c.args.images.now c.args.at c.unwrap-place.result _ c.requires.rising c.requires.beside within
    here
