use Rattle.std.proofs.Common.{◌≡◌, ◌-◌, ◌<◌, ℕ, List, [], ◌∷◌, ◌++◌, length, refl, sym, ap, ◌∙◌, subst}
use Rattle.std.proofs.Common.{arith, rules, Some, slice_get, slice_index_or, map}
use Rattle.std.specs.List.{flat_map}
use Rattle.std.proofs.lemmas.List.Elements.{All-same}
use Rattle.std.proofs.lemmas.Result.{on_ok_weaker}
use Rattle.bv_terms.specs.declared.value.Sort.{Sort}
use Rattle.isel_spec.specs.File.{operation}
use Rattle.isel_spec.specs.Spec.{file}
use Rattle.isel_spec.proofs.SpecLemmas.{operation_is}
use Rattle.pattern_core.specs.declared.pattern.Node.{Node}
use Rattle.pattern_core.specs.declared.pattern.Src.{Src}
use Rattle.plain_search.specs.Extent.{attribute_bits_of}
use Rattle.plain_search.specs.Patterns.{choices, numbers, sources_of, patterns_of, without, different}
use Rattle.plain_search.specs.Sieve.{candidates_after, candidates_with, candidates_over}
use Rattle.plain_search.proofs.ExtentLemmas.{attribute_bits_at}
use Rattle.plain_search.proofs.SiftLemmas.{sifts-same, sifts-more, sifts-all, after-none, after-count, with-choices}
use Rattle.plain_search.proofs.SiftLemmas.{positive, All-different, All-without, All-few}
use Rattle.plain_search.proofs.sifting.+sifting.Goals as goal

-- ---- the next operation

pub sift_after-returns-then-count-eq0-clause-sifts : goal.sift_after-returns-then-count-eq0-clause-sifts
sift_after-returns-then-count-eq0-clause-sifts g t c =
    let f = file c.args.spec.now in
    on_ok_weaker c.sift_patterns.result (λ sifts.
    sifts-same g.S.Sieve.takes f c.args.goal c.args.sieve.now c.sift_patterns.new.sieve
    (λ x. patterns_of f x c.args.nodes.now.items)
    (λ x. candidates_after f x c.args.count c.args.nodes.now.items c.args.ops.now)
    (λ x there.
    after-none f x c.args.count c.args.nodes.now.items c.args.ops.now c.if-count-eq0.true)
    sifts) c.sift_patterns.ensures.sifts

pub sift_after-sift_operation-requires : goal.sift_after-sift_operation-requires
sift_after-sift_operation-requires g t c κs within =
    let f = file c.args.spec.now in
    let some = positive c.args.count c.if-count-eq0.false in
    let size = ap (λ (ns : List Node). length ns) c.loop-op.invariant.nodes in
    let few = c.requires.few in
    let firsts : c.deref-op-items.result.now ≡ different c.args.ops.now =
    c.deref-op-items.ensures.value ∙ c.in_ok-firsts.ensures in
    let Narrow : ℕ → Type 0 = λ op. attribute_bits_of f op < 64 in
    let There : ℕ → Type 0 = λ op. op < length c.args.spec.now.ops in (
      omega (arith, c.decreases, some),
      (
        search rules,
        (
          c.requires.there,
          (
            c.requires.table,
            (
              omega (arith, few, size, some),
              (
                All-same There c.deref-op-items.result.now (different c.args.ops.now) firsts
                    (All-different There c.args.ops.now c.requires.ops) c.loop-op.op-index 0 c.loop-op-test.true,
                (
                  All-same Narrow c.deref-op-items.result.now (different c.args.ops.now) firsts
                      (All-different Narrow c.args.ops.now c.requires.few_bits) c.loop-op.op-index 0
                      c.loop-op-test.true,
                  (c.requires.ops, (c.requires.few_bits, c.loop-op.invariant.for_goal)),
                ),
              ),
            ),
          ),
        ),
      ),
    )

pub sift_after-loop-op-preserved : goal.sift_after-loop-op-preserved
sift_after-loop-op-preserved g t c =
    let f = file c.args.spec.now in
    let op = slice_index_or c.deref-op-items.result.now c.loop-op.op-index 0 in
    record {
      sifts =
          sifts-more g.S.Sieve.takes f c.args.goal c.args.sieve.now c.loop-op.sieve c.sift_operation.new.sieve
          (λ x op. candidates_with f x (c.args.count - 1) c.args.nodes.now.items op (without op c.args.ops.now))
          c.deref-op-items.result.now c.loop-op.op-index 0 op c.loop-op-test.true refl c.loop-op.invariant.sifts
          (sifts-same g.S.Sieve.takes f c.args.goal c.loop-op.sieve c.sift_operation.new.sieve
          (λ x. candidates_with f x (c.args.count - 1) c.loop-op.nodes.items op (without op c.args.ops.now))
          (λ x. candidates_with f x (c.args.count - 1) c.args.nodes.now.items op (without op c.args.ops.now))
          (λ x there.
          ap (λ (ns : List Node). candidates_with f x (c.args.count - 1) ns op (without op c.args.ops.now))
          c.loop-op.invariant.nodes) c.in_ok-sift_operation.ensures.sifts);
      nodes = ◌∙◌ {A = List Node} c.in_ok-sift_operation.ensures.nodes c.loop-op.invariant.nodes;
      for_goal = c.in_ok-sift_operation.ensures.for_goal;
    }

pub sift_after-returns-clause-sifts : goal.sift_after-returns-clause-sifts
sift_after-returns-clause-sifts g t c =
    let f = file c.args.spec.now in
    let firsts = c.deref-op-items.ensures.value ∙ c.in_ok-firsts.ensures in
    sifts-same g.S.Sieve.takes f c.args.goal c.args.sieve.now c.loop-op.sieve
    (λ x. flat_map
    (λ op. candidates_with f x (c.args.count - 1) c.args.nodes.now.items op (without op c.args.ops.now))
    c.deref-op-items.result.now)
    (λ x. candidates_after f x c.args.count c.args.nodes.now.items c.args.ops.now)
    (λ x there.
    after-count f x c.args.count c.args.nodes.now.items c.args.ops.now c.deref-op-items.result.now
    (positive c.args.count c.if-count-eq0.false) firsts)
    (sifts-all g.S.Sieve.takes f c.args.goal c.args.sieve.now c.loop-op.sieve
    (λ x op. candidates_with f x (c.args.count - 1) c.args.nodes.now.items op (without op c.args.ops.now))
    c.deref-op-items.result.now c.loop-op.op-index (omega (arith, c.loop-op-test.false)) c.loop-op.invariant.sifts)

-- ---- its attributes

pub sift_operation-attribute_choices-requires : goal.sift_operation-attribute_choices-requires
sift_operation-attribute_choices-requires g t c =
    let name = c.op-definition.ensures.0 in
    let at : slice_get c.args.spec.now.ops c.args.op ≡ Some (name, c.op-definition.result.now) =
    subst (λ (k : ℕ). slice_get c.args.spec.now.ops k ≡ Some (name, c.op-definition.result.now)) c.from.ensures
    c.op-definition.ensures.1 in
    let bits = attribute_bits_at c.args.spec.now c.args.op name c.op-definition.result.now at in
    All-same (λ w. w < 64) c.as_slice.result.now c.op-definition.result.now.attrs c.as_slice.ensures
    (All-few (λ w. w) 64 c.op-definition.result.now.attrs
    (subst (λ n. n < 64) (sym bits) c.requires.op_few_bits))

pub sift_operation-sift_arguments-requires : goal.sift_operation-sift_arguments-requires
sift_operation-sift_arguments-requires g t c κs within =
    let f = file c.args.spec.now in
    let size = ap (λ (ns : List Node). length ns) c.loop-choice.invariant.nodes in
    let few = c.requires.few in
    let left : c.deref-in-loop-choice-2.result.now ≡ without c.args.op c.args.ops.now =
    c.deref-in-loop-choice-2.ensures.value ∙ c.in_ok-left.ensures in
    let Narrow : ℕ → Type 0 = λ op. attribute_bits_of f op < 64 in
    let There : ℕ → Type 0 = λ op. op < length c.args.spec.now.ops in (
      omega (arith, c.decreases),
      (
        search rules,
        (
          c.requires.there,
          (
            c.requires.table,
            (
              omega (arith, few, size),
              (
                All-same There c.deref-in-loop-choice-2.result.now (without c.args.op c.args.ops.now) left
                    (All-without There c.args.op c.args.ops.now c.requires.ops),
                (
                  All-same Narrow c.deref-in-loop-choice-2.result.now (without c.args.op c.args.ops.now) left
                      (All-without Narrow c.args.op c.args.ops.now c.requires.few_bits),
                  c.loop-choice.invariant.for_goal,
                ),
              ),
            ),
          ),
        ),
      ),
    )

pub sift_operation-loop-choice-preserved : goal.sift_operation-loop-choice-preserved
sift_operation-loop-choice-preserved g t c =
    let f = file c.args.spec.now in
    let left = c.in_ok-left.left.items in
    let arguments = c.in_ok-arguments.arguments.items in
    record {
      sifts =
          sifts-more g.S.Sieve.takes f c.args.goal c.args.sieve.now c.loop-choice.sieve c.sift_arguments.new.sieve
          (λ x attrs. candidates_over f x c.args.count c.args.nodes.now.items c.args.op left arguments attrs)
          c.deref-choice-items.result.now c.loop-choice.choice-index c.choice-item.result c.choice-item.result
          c.loop-choice-test.true c.choice-item.is c.loop-choice.invariant.sifts
          (sifts-same g.S.Sieve.takes f c.args.goal c.loop-choice.sieve c.sift_arguments.new.sieve
          (λ x. candidates_over f x c.args.count c.loop-choice.nodes.items c.args.op
          c.deref-in-loop-choice-2.result.now c.deref-in-loop-choice.result.now c.as_slice-attrs.result.now)
          (λ x. candidates_over f x c.args.count c.args.nodes.now.items c.args.op left arguments c.choice-item.result)
          (λ x there i.
          candidates_over f x c.args.count (c.loop-choice.invariant.nodes i) c.args.op
          (c.deref-in-loop-choice-2.ensures.value i) (c.deref-in-loop-choice.ensures.value i)
          (c.as_slice-attrs.ensures i)) c.in_ok-sift_arguments.ensures.sifts);
      nodes = ◌∙◌ {A = List Node} c.in_ok-sift_arguments.ensures.nodes c.loop-choice.invariant.nodes;
      for_goal = c.in_ok-sift_arguments.ensures.for_goal;
    }

pub sift_operation-returns-clause-sifts : goal.sift_operation-returns-clause-sifts
sift_operation-returns-clause-sifts g t c =
    let f = file c.args.spec.now in
    let arguments = c.in_ok-arguments.arguments.items in
    let attributes = c.deref-choice-items.result.now in
    let nodes = c.args.nodes.now.items in
    let definition = c.op-definition.result.now in
    let name = c.op-definition.ensures.0 in
    let at : slice_get c.args.spec.now.ops c.args.op ≡ Some (name, definition) =
    subst (λ (k : ℕ). slice_get c.args.spec.now.ops k ≡ Some (name, definition)) c.from.ensures
    c.op-definition.ensures.1 in
    let are : attributes ≡ choices (map numbers definition.attrs) =
    c.deref-choice-items.ensures.value ∙ c.in_ok-attributes.ensures
    ∙ ap (λ (ws : List ℕ). choices (map numbers ws)) c.as_slice.ensures in
    sifts-same g.S.Sieve.takes f c.args.goal c.args.sieve.now c.loop-choice.sieve
    (λ x. flat_map (candidates_over f x c.args.count nodes c.args.op c.in_ok-left.left.items arguments) attributes)
    (λ x. candidates_with f x c.args.count nodes c.args.op (without c.args.op c.args.ops.now))
    (λ x there.
    with-choices f x c.args.count nodes c.args.op c.in_ok-left.left.items
    (operation c.args.spec.now.terms (name, definition)) arguments attributes
    (operation_is c.args.spec.now c.args.op name definition at)
    (c.in_ok-arguments.ensures x there
    ∙ (λ i. choices
    (map (λ (s : Sort). sources_of f x (c.deref.ensures.value i) (Some s)) (c.as_slice-2.ensures i)))) are
    ∙ ap (candidates_with f x c.args.count nodes c.args.op) c.in_ok-left.ensures)
    (sifts-all g.S.Sieve.takes f c.args.goal c.args.sieve.now c.loop-choice.sieve
    (λ x. candidates_over f x c.args.count nodes c.args.op c.in_ok-left.left.items arguments) attributes
    c.loop-choice.choice-index (omega (arith, c.loop-choice-test.false)) c.loop-choice.invariant.sifts)

-- ---- its arguments

pub sift_arguments-loop-choice-preserved : goal.sift_arguments-loop-choice-preserved
sift_arguments-loop-choice-preserved g t c =
    let f = file c.args.spec.now in
    let node : List ℕ → List Src → Node = λ attrs args. record { op = c.args.op; attrs = attrs; args = args } in
    record {
      sifts =
          sifts-more g.S.Sieve.takes f c.args.goal c.args.sieve.now c.loop-choice.sieve c.sift_node.new.sieve
          (λ x args. candidates_after f x c.args.count (c.args.nodes.now.items ++ node c.args.attrs.now args ∷ [])
          c.args.left.now) c.args.choices.now c.loop-choice.choice-index c.choice-item.result c.choice-item.result
          c.loop-choice-test.true c.choice-item.is c.loop-choice.invariant.sifts
          (sifts-same g.S.Sieve.takes f c.args.goal c.loop-choice.sieve c.sift_node.new.sieve
          (λ x. candidates_after f x c.args.count
          (c.loop-choice.nodes.items ++ node c.in_ok-copied.field-0 c.in_ok-copied-2.field-0 ∷ []) c.args.left.now)
          (λ x. candidates_after f x c.args.count
          (c.args.nodes.now.items ++ node c.args.attrs.now c.choice-item.result ∷ []) c.args.left.now)
          (λ x there i.
          candidates_after f x c.args.count
          (c.loop-choice.invariant.nodes i
          ++ node (c.in_ok-copied.ensures i) ((c.in_ok-copied-2.ensures ∙ c.as_slice.ensures) i) ∷ []) c.args.left.now)
          c.in_ok-sift_node.ensures.sifts);
      nodes = ◌∙◌ {A = List Node} c.in_ok-sift_node.ensures.nodes c.loop-choice.invariant.nodes;
      for_goal = c.in_ok-sift_node.ensures.for_goal;
    }
