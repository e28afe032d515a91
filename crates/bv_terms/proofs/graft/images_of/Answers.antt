-- One more image is that of the next node.
use Rattle.std.proofs.Common.{◌∷◌, ◌++◌, ◌<◌, [], length, sym, ap, ◌∙◌, arith, map, take, length-set}
use Rattle.std.proofs.lemmas.List.{take_more_set}
use Rattle.std.proofs.lemmas.Option.{slice_get-get_or}
use Rattle.list_lemmas.proofs.Lookups.{map-take-more}
use Rattle.bv_terms.specs.Graft.{image_in}
use Rattle.bv_terms.proofs.graft.images_of.Goals as goal

pub loop-place-preserved : goal.loop-place-preserved
loop-place-preserved c =
    let f = image_in c.args.nodes.now c.args.images.now in
    let done = map f (take c.loop-place.place c.args.args.now) in
    let room : c.loop-place.place < length c.loop-place.moved = omega arith in
    record {
      size = length-set c.loop-place.moved c.loop-place.place c.image_of.result ∙ c.loop-place.invariant.size;
      images = take_more_set c.loop-place.moved c.loop-place.place c.image_of.result room
          ∙ ap (λ xs. xs ++ c.image_of.result ∷ []) c.loop-place.invariant.images
          ∙ ap (λ x. done ++ x ∷ []) c.image_of.ensures
          ∙ sym (map-take-more f c.args.args.now c.loop-place.place _
          (slice_get-get_or c.args.args.now c.loop-place.place _ c.loop-place-test.true));
    }
