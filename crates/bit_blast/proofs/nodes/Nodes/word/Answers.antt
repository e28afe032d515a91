use Rattle.std.proofs.Common.{Contains, refl, subst, sym}
use Rattle.bit_blast.specs.Words.{HasWord}
use Rattle.bit_blast.proofs.EntryLemmas.{word-some, word-found}
use Rattle.bit_blast.proofs.nodes.Nodes.word.Goals as goal

pub unwrap-requires : goal.unwrap-requires
unwrap-requires c = word-some c.args.at _ (λ k. refl) _ c.get.result c.get.ensures.value
    (subst (λ ws. HasWord ws c.args.at) (sym c.self.view_is) c.requires)

pub returns : goal.returns
returns c =
    subst (λ ws. Contains ws (c.args.at, c.as_slice.result.now)) c.self.view_is
    (subst (λ w. Contains c.self.inside.words.entries (c.args.at, w)) (sym c.as_slice.ensures)
    (word-found c.args.at _ (λ k. refl) _ c.get.result c.unwrap.result c.get.ensures.value c.unwrap.ensures))
