-- As many images stand there as nodes were walked, and each next node is ready.
use Rattle.std.proofs.Common.{◌≡◌, ◌+◌, ◌∷◌, ◌++◌, [], get_or, take, map, length-take-le, sym, subst, arith}
use Rattle.std.proofs.lemmas.List.{take_more}
use Rattle.std.proofs.lemmas.Option.{slice_get-get_or}
use Rattle.bv_terms.specs.declared.op.TermId.{TermId}
use Rattle.bv_terms.specs.Table.{term_at}
use Rattle.bv_terms.specs.Graft.{AreImages, IsReady}
use Rattle.bv_terms.proofs.GraftLemmas.{AreImages-beside, IsGrafting, IsGrafting-images, IsGrafting-more, next-ready}
use Rattle.bv_terms.proofs.terms.Terms.images.Goals as goal

pub image-requires-clause-images : goal.image-requires-clause-images
image-requires-clause-images c =
    let old = c.args.self.now in
    let from = c.args.from.now in
    let inputs = c.args.inputs.now in
    let walked = take c.loop-at.at-index c.args.nodes.now in
    let ts = map (term_at c.loop-at.self) inputs in
    let short = length-take-le c.loop-at.at-index c.args.nodes.now (omega arith) in
    let beside = AreImages-beside c.loop-at.self from _ walked c.loop-at.images.items c.loop-at.invariant.are in
    let count : c.loop-at.at-index ≡ c.len.result =
    omega (arith, c.len.ensures, c.loop-at.images.ok.0, short, beside) in
    subst (λ n. AreImages c.loop-at.self from ts (take n c.args.nodes.now) c.deref.result.now) count
    (subst (AreImages c.loop-at.self from ts walked) (sym c.deref.ensures.value)
    (IsGrafting-images old c.loop-at.self from inputs walked c.loop-at.images.items c.requires.graftable
    c.loop-at.invariant))

pub image-requires-clause-ready : goal.image-requires-clause-ready
image-requires-clause-ready c =
    let old = c.args.self.now in
    let from = c.args.from.now in
    let inputs = c.args.inputs.now in
    let none : TermId = record { 0 = 0 } in
    let i = c.loop-at.at-index in
    let at = get_or c.args.nodes.now i none in
    let short = length-take-le c.loop-at.at-index c.args.nodes.now (omega arith) in
    let beside = AreImages-beside c.loop-at.self from _ (take i c.args.nodes.now) c.loop-at.images.items
    c.loop-at.invariant.are in
    let count : i ≡ c.len.result = omega (arith, c.len.ensures, c.loop-at.images.ok.0, short, beside) in
    subst (λ n. IsReady c.loop-at.self from inputs (take n c.args.nodes.now) at) count
    (next-ready old c.loop-at.self from inputs c.args.nodes.now c.loop-at.images.items c.requires.graftable i at
    c.loop-at.invariant c.requires.order (slice_get-get_or c.args.nodes.now i none c.loop-at-test.true)
    (c.requires.fit i none c.loop-at-test.true))

pub loop-at-preserved : goal.loop-at-preserved
loop-at-preserved c =
    let old = c.args.self.now in
    let new = c.image.new.self in
    let from = c.args.from.now in
    let inputs = c.args.inputs.now in
    let none : TermId = record { 0 = 0 } in
    let i = c.loop-at.at-index in
    let at = get_or c.args.nodes.now i none in
    subst (IsGrafting old new from inputs (take (i + 1) c.args.nodes.now)) (sym c.in_ok-push.ensures.items)
    (subst (λ ns. IsGrafting old new from inputs ns (c.loop-at.images.items ++ c.in_ok-image.image ∷ []))
    (sym (take_more c.args.nodes.now i none c.loop-at-test.true))
    (IsGrafting-more old c.loop-at.self new from inputs (take i c.args.nodes.now) c.loop-at.images.items at
    c.in_ok-image.image c.requires.graftable c.loop-at.invariant c.in_ok-image.ensures.table
    c.in_ok-image.ensures.extends c.in_ok-image.ensures.within c.in_ok-image.ensures.term))
