use Rattle.std.proofs.Common.{◌≡◌, ◌++◌, ◌∷◌, [], Option, ◌<◌, subst, sym, arith, length, ℕ, ap, take, ◌∙◌, ◌==◌}
use Rattle.std.proofs.Common.{if◌then◌else◌}
use Rattle.multiset_rank.specs.Claims.{claims}
use Rattle.std.proofs.lemmas.List.{take_all}
use Rattle.claim_core.specs.Sizes.{TellsLeast, told, lesser}
use Rattle.claim_core.proofs.SizeLemmas.{tells-next, told-more, read-at}
use Rattle.claim_core.proofs.RunLemmas.{reached-below}
use Rattle.claim_core.proofs.machine.Core.least.Goals as goal

pub claim-claim-requires : goal.claim-claim-requires
claim-claim-requires g c =
    let size = c.self.inside.book.ok.0 in
    let end = c.len-place-end.ensures in
    let test = c.loop-place-test.true in
    let there : c.loop-place.place < length c.self.inside.book.items = omega (arith, size, end, test) in
    record {
      number = reached-below (length (claims c.self.inside.plan)) _ c.loop-place.place c.index.result.now.0
          c.index.result.now.1 c.self.invariant.0 (read-at c.self.inside.book.items c.loop-place.place
          c.index.result.now there
          c.index.ensures);
    }

pub loop-place-preserved : goal.loop-place-preserved
loop-place-preserved g c =
    let size = c.self.inside.book.ok.0 in
    let end = c.len-place-end.ensures in
    let test = c.loop-place-test.true in
    let there : c.loop-place.place < length c.self.inside.book.items = omega (arith, size, end, test) in
    let at = read-at c.self.inside.book.items c.loop-place.place c.index.result.now there c.index.ensures in
    let longer = told-more g.E.Least.size c.self.inside.book.items c.loop-place.place c.index.result.now.0
    c.index.result.now.1 at in
    let next = tells-next c.self.inside.plan (told g.E.Least.size (take c.loop-place.place c.self.inside.book.items))
    c.args.goal c.claim-claim.result.0 c.index.result.now.0 c.claim-claim.result.1 (g.E.Least.size c.index.result.now.1)
    c.loop-place.least c.claim-claim.ensures.place.there c.loop-place.invariant in
    let answer = c.with_size-least.ensures ∙ ap (λ size. if c.claim-claim.result.0 == c.args.goal
    then lesser c.loop-place.least size else c.loop-place.least) c.least.ensures in
    subst (λ pairs. TellsLeast c.self.inside.plan pairs c.args.goal c.with_size-least.result) (sym longer)
    (subst (λ (a : Option ℕ). TellsLeast c.self.inside.plan (told g.E.Least.size (take c.loop-place.place
    c.self.inside.book.items) ++ (c.index.result.now.0, g.E.Least.size c.index.result.now.1) ∷ []) c.args.goal a)
    (sym answer) next)

pub returns : goal.returns
returns g c =
    let size = c.self.inside.book.ok.0 in
    let end = c.len-place-end.ensures in
    let test = c.loop-place-test.false in
    let all : take c.loop-place.place c.self.inside.book.items ≡ c.self.inside.book.items =
    take_all _ _ (omega (arith, size, end, test)) in
    subst (λ m. TellsLeast m.plan (told g.E.Least.size m.state.book) c.args.goal c.loop-place.least) c.self.view_is
    (subst (λ xs. TellsLeast c.self.inside.plan (told g.E.Least.size xs) c.args.goal c.loop-place.least) all
    c.loop-place.invariant)
