use Rattle.std.proofs.Common.{◌≡◌, length, take, map}
use Rattle.bv_terms.specs.declared.node.TheConstants.{MOST_ARGS}
use Rattle.bv_terms.specs.Graft.{image_in}
use Rattle.bv_terms.proofs.graft.images_of.Given as goal

-- the images of the nodes so far
abbrev pub invariant-loop-place : goal.invariant-loop-place
invariant-loop-place l = record {
  size : length l.moved ≡ MOST_ARGS;
  images : take l.place l.moved ≡ map (image_in l.nodes l.images) (take l.place l.args);
}
