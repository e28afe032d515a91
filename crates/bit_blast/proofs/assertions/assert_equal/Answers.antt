use Rattle.std.proofs.Common.{◌≡◌, ◌∙◌, ◌+◌, ℕ, [], ◌∷◌, List, All, length, take, sym, ap, subst, arith}
use Rattle.std.proofs.lemmas.List.{take_more, length-take-le}
use Rattle.std.proofs.lemmas.List.Elements.{All-cons, All-nil}
use Rattle.circuit.specs.declared.gate.Gate.{Gate}
use Rattle.circuit.specs.declared.signal.Signal.{Signal}
use Rattle.circuit.specs.Signal.{IsSignalOver}
use Rattle.circuit.proofs.GrowthLemmas.{asserts-then, asserts-as}
use Rattle.bit_blast.proofs.AssertLemmas.{equal-more}
use Rattle.bit_blast.proofs.assertions.assert_equal.Goals as goal

two-over : (n : ℕ) (a b : Signal) → IsSignalOver n a → IsSignalOver n b → All (IsSignalOver n) (a ∷ b ∷ [])
two-over n a b first second =
    All-cons (IsSignalOver n) a (b ∷ []) first (All-cons (IsSignalOver n) b [] second (All-nil (IsSignalOver n)))

pub assert_any-requires-clause-signals : goal.assert_any-requires-clause-signals
assert_any-requires-clause-signals c =
    let i = c.loop-place.place in
    let size = sym (ap (λ (gs : List Gate). length gs) c.loop-place.invariant.gates) in
    two-over _ _ _
    ((c.opposite.ensures.over _).1
    (subst (λ n. All (IsSignalOver n) c.args.left.now) size c.requires.left i _ c.loop-place-test.true))
    (subst (λ n. All (IsSignalOver n) c.args.right.now) size c.requires.right i _
    (omega (arith, c.loop-place-test.true, c.requires.width)))

pub assert_any-requires-in-loop-place-clause-signals : goal.assert_any-requires-in-loop-place-clause-signals
assert_any-requires-in-loop-place-clause-signals c =
    let i = c.loop-place.place in
    let size = sym (ap (λ (gs : List Gate). length gs) (c.in_ok-assert_any.ensures.asserts.gates
    ∙ c.loop-place.invariant.gates)) in
    two-over _ _ _
    (subst (λ n. All (IsSignalOver n) c.args.left.now) size c.requires.left i _ c.loop-place-test.true)
    ((c.opposite-in-loop-place.ensures.over _).1
    (subst (λ n. All (IsSignalOver n) c.args.right.now) size c.requires.right i _
    (omega (arith, c.loop-place-test.true, c.requires.width))))

pub loop-place-preserved : goal.loop-place-preserved
loop-place-preserved c =
    let i = c.loop-place.place in
    let left = c.args.left.now in
    let right = c.args.right.now in
    let size : length (take i right) ≡ length (take i left) =
    length-take-le i right (omega (arith, c.loop-place-test.true, c.requires.width))
    ∙ sym (length-take-le i left (omega (arith, c.loop-place-test.true))) in
    asserts-as _ _
    (λ v. equal-more v (take i left) (take i right) (take (i + 1) left) (take (i + 1) right) _ _
    c.opposite.result c.opposite-in-loop-place.result size
    (take_more left i _ c.loop-place-test.true)
    (take_more right i _ (omega (arith, c.loop-place-test.true, c.requires.width)))
    (c.opposite.ensures.value v) (c.opposite-in-loop-place.ensures.value v))
    (asserts-then _ _ (asserts-then _ _ c.loop-place.invariant c.in_ok-assert_any.ensures.asserts)
    c.in_ok-assert_any-2.ensures.asserts)
