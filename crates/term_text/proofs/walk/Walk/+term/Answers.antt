use Rattle.std.proofs.Common.{◌≡◌, ℕ, ◌+◌, ◌<◌, List, [], ◌∷◌, ◌++◌, length, map, get_or, drop, take, refl, sym}
use Rattle.std.proofs.Common.{ap, ◌∙◌}
use Rattle.std.proofs.Common.{subst, arith, inr, Ok, Err, Some}
use Rattle.std.proofs.lemmas.Result.{err_from_is_err_and}
use Rattle.sexp_read.specs.Forest.{tree_at, trees_by}
use Rattle.std.proofs.lemmas.List.Elements.{All-append}
use Rattle.bv_terms.specs.declared.op.TermId.{TermId}
use Rattle.term_text.specs.declared.scope.Scope as declared
use Rattle.term_text.specs.declared.head.Head.TheVariants as head
use Rattle.term_text.specs.declared.fault.TermKind.TheVariants as kind
use Rattle.term_text.specs.Build.{terms_at}
use Rattle.term_text.specs.Head.{fault_at, span_of}
use Rattle.term_text.specs.Reading.{and_then, over, word_read, let_fault, terms_read, let_read}
use Rattle.term_text.specs.Reading.{term_read}
use Rattle.term_text.specs.Scope.{IsRead, AreRead, scope_of, names_of, AreNamesIn, terms_under}
use Rattle.term_text.proofs.BuildLemmas.{Extends-itself, Extends-further}
use Rattle.term_text.proofs.ScopeLemmas.{KeepsNames-further, names_of-pushed}
use Rattle.term_text.proofs.TermSteps.{HasTerms, terms_none, failed-after, read-word}
use Rattle.term_text.proofs.FormSteps.{let-items-other, let-two-refused, let-two-bound, not-two}
use Rattle.term_text.proofs.FormSteps.{later-two, headed-rest, later-rest, rest-is}
use Rattle.term_text.proofs.WalkLemmas.{bound-next, bound-stop, bound-done, bound-new, mapped-some, pair-there}
use Rattle.term_text.proofs.WalkLemmas.{word-is-name, name-there}
use Rattle.term_text.proofs.BindingSteps.{HasBound, bound_none, names_in, bound_pair}
use Rattle.term_text.proofs.ScopeLemmas.{name-parts}
use Rattle.std.proofs.Common.{Contains, IsSome, IfSome, option_map}
use Rattle.sexp_read.specs.Tree.{Tree}
use Rattle.sexp_read.specs.Words.{is_name}
use Rattle.term_text.specs.Reading.{bindings_read}
use Rattle.term_text.specs.Scope.{NamesAreRead}
use Rattle.term_text.proofs.WalkLemmas.{in-same, terms-next, terms-stop, terms-done, scope-same}
use Rattle.term_text.proofs.walk.Walk.+term.Goals as goal

-- ---- an operator over arguments

pub application-returns-clause-read : goal.application-returns-clause-read
application-returns-clause-read t c =
    let f = tree_at c.args.self.now.bytes.now c.args.self.now.forest.now.items in
    let items = map f c.args.items.now in
    let p = c.args.terms.now.pointer in
    let scope = scope_of c.args.terms.now c.args.scope.now in
    subst (λ read. IsRead c.over.new.terms read c.over.result)
    ((λ i. over (c.in_ok-args.ensures.extends.pointer i) (c.span-span.ensures i) items c.args.operator
    (terms_at c.terms.new.terms (c.as_slice.ensures.value i)))
    ∙ sym (ap (λ r. and_then r (over p (span_of (f c.args.list)) items c.args.operator)) c.in_ok-args.ensures.read.1))
    c.over.ensures.read

-- ---- a `let`

pub binding-returns-in_default-clause-read : goal.binding-returns-in_default-clause-read
binding-returns-in_default-clause-read t c =
    let f = tree_at c.args.self.now.bytes.now c.args.self.now.forest.now.items in
    inr (let-items-other c.args.terms.now.pointer (scope_of c.args.terms.now c.args.scope.now)
    (span_of (f c.args.list)) f c.args.items.now (not-two c.args.items.now c.in_default.ensures)
    ∙ ap (λ s. Err (fault_at kind.Arity s)) (sym c.span-span.ensures) ∙ ap Err (sym c.fault_at.ensures))

pub binding-let_fault-requires-clause-bindings_in : goal.binding-let_fault-requires-clause-bindings_in
binding-let_fault-requires-clause-bindings_in t c =
    λ k d lt. (c.in-Some-children.ensures.later c.args.self.now.bytes.now c.requires.reading k d lt).1

pub binding-returns-in-Some-2-clause-read : goal.binding-returns-in-Some-2-clause-read
binding-returns-in-Some-2-clause-read t c =
    let f = tree_at c.args.self.now.bytes.now c.args.self.now.forest.now.items in
    inr (let-two-refused c.args.terms.now.pointer (scope_of c.args.terms.now c.args.scope.now)
    (span_of (f c.args.list)) f c.args.items.now c.in-Some-children.bindings.now c.in-Some.form c.in-Some.body
    c.in-Some-2.fault c.in-Some.ensures (c.in-Some-children.ensures.trees c.args.self.now.bytes.now c.requires.reading)
    (ap (λ s. let_fault s (map f c.in-Some-children.bindings.now)) (sym c.span-span.ensures) ∙ sym c.in_ok-fault.ensures
    ∙ c.in-Some-2.is))

pub binding-bound_terms-requires : goal.binding-bound_terms-requires
binding-bound_terms-requires t c =
    let f = tree_at c.args.self.now.bytes.now c.args.self.now.forest.now.items in
    let two = later-two (λ item. (c.args.list < item) × (item < length c.args.self.now.forest.now.items))
    c.args.items.now c.in-Some.form c.in-Some.body c.in-Some.ensures c.requires.later in (
      omega (arith, c.decreases),
      (
        c.requires.reading,
        (
          c.requires.list_in,
          (
            (λ k d lt.
                let later = c.in-Some-children.ensures.later c.args.self.now.bytes.now c.requires.reading k d lt in
                (omega (arith, two.0.0, later.0), later.1)),
            (
              ap (λ s. let_fault s (map f c.in-Some-children.bindings.now)) (sym c.span-span.ensures)
                  ∙ sym c.in_ok-fault.ensures ∙ c.in_default-2.is,
              c.requires.names,
            ),
          ),
        ),
      ),
    )

pub binding-returns-in_err-bound-clause-read : goal.binding-returns-in_err-bound-clause-read
binding-returns-in_err-bound-clause-read t c =
    let f = tree_at c.args.self.now.bytes.now c.args.self.now.forest.now.items in
    let p = c.args.terms.now.pointer in
    let scope = scope_of c.args.terms.now c.args.scope.now in
    let is = err_from_is_err_and c.from_residual-in_err-bound.result c.from_residual-in_err-bound.ensures.1 in
    let whole =
    let-two-bound p scope (span_of (f c.args.list)) f c.args.items.now c.in-Some-children.bindings.now c.in-Some.form
    c.in-Some.body c.in-Some.ensures (c.in-Some-children.ensures.trees c.args.self.now.bytes.now c.requires.reading)
    (ap (λ s. let_fault s (map f c.in-Some-children.bindings.now)) (sym c.span-span.ensures) ∙ sym c.in_ok-fault.ensures
    ∙ c.in_default-2.is) in
    subst (IsRead c.bound_terms.new.terms (let_read p scope (span_of (f c.args.list)) (trees_by f c.args.items.now)))
    (sym (is.1 ∙ ap Err is.2))
    (failed-after _ _ (λ bound. term_read p (bound ++ scope) (f c.in-Some.body)) c.in_err-bound.field-0.0 whole
    c.in_err-bound.ensures.read)

pub binding-body-requires : goal.binding-body-requires
binding-body-requires t c =
    let two = later-two (λ item. (c.args.list < item) × (item < length c.args.self.now.forest.now.items))
    c.args.items.now c.in-Some.form c.in-Some.body c.in-Some.ensures c.requires.later in (
      omega (arith, c.decreases, two.1.0, two.1.1),
      (
        c.requires.reading,
        (
          two.1.1,
          (
            c.in_ok-bound.ensures.read.0,
            in-same c.args.terms.now c.bound_terms.new.terms c.args.scope.now c.bound_terms.new.scope
                c.in_ok-bound.ensures.extends c.in_ok-bound.ensures.scope c.requires.names,
          ),
        ),
      ),
    )

pub binding-returns-clause-read : goal.binding-returns-clause-read
binding-returns-clause-read t c =
    let f = tree_at c.args.self.now.bytes.now c.args.self.now.forest.now.items in
    let p = c.args.terms.now.pointer in
    let scope = scope_of c.args.terms.now c.args.scope.now in
    let whole =
    let-two-bound p scope (span_of (f c.args.list)) f c.args.items.now c.in-Some-children.bindings.now c.in-Some.form
    c.in-Some.body c.in-Some.ensures (c.in-Some-children.ensures.trees c.args.self.now.bytes.now c.requires.reading)
    (ap (λ s. let_fault s (map f c.in-Some-children.bindings.now)) (sym c.span-span.ensures) ∙ sym c.in_ok-fault.ensures
    ∙ c.in_default-2.is) in
    let same = scope-same c.args.terms.now c.bound_terms.new.terms c.args.scope.now c.bound_terms.new.scope
    c.in_ok-bound.ensures.extends c.in_ok-bound.ensures.scope c.requires.names in
    subst (λ read. IsRead c.body.new.terms read c.body.result)
    ((λ i. term_read (c.in_ok-bound.ensures.extends.pointer i)
    (terms_under c.bound_terms.new.terms c.in_ok-bound.bound ++ same i) (f c.in-Some.body))
    ∙ sym (whole ∙ ap (λ r. and_then r (λ bound. term_read p (bound ++ scope) (f c.in-Some.body)))
    c.in_ok-bound.ensures.read.1))
    c.body.ensures.read

pub body-term-requires : goal.body-term-requires
body-term-requires t c =
    let pushed : declared.Scope = record { outer = c.args.scope.now.outer; bound = c.push.new.self } in (
      omega (arith, c.decreases),
      (
        c.requires.reading,
        (
          c.requires.item_in,
          subst (AreNamesIn c.args.terms.now)
              (sym (names_of-pushed c.args.scope.now pushed c.args.bound c.in_ok-push.ensures.items refl))
              (All-append (λ (e : List ℕ × TermId). e.1.0 < length c.args.terms.now.nodes) c.args.bound
              (names_of c.args.scope.now) c.requires.bound c.requires.names),
        ),
      ),
    )

-- ---- a term by its tree

pub term-returns-in-Some-clause-read : goal.term-returns-in-Some-clause-read
term-returns-in-Some-clause-read t c =
    let f = tree_at c.args.self.now.bytes.now c.args.self.now.forest.now.items in
    let p = c.args.terms.now.pointer in
    let scope = scope_of c.args.terms.now c.args.scope.now in
    subst (λ read. IsRead c.word_term.new.terms read c.word_term.result)
    (ap (λ s. word_read scope s c.in-Some.word.now) c.span-span.ensures
    ∙ sym (read-word p scope (f c.args.item) c.in-Some.word.now (sym c.in-Some.ensures.word)))
    c.word_term.ensures.read

pub term-head_of-requires-clause-head_in : goal.term-head_of-requires-clause-head_in
term-head_of-requires-clause-head_in t c = (c.members-children.ensures.later 0 0 c.in-len1-up.len_at_least).1

pub term-head_of-requires-clause-rest_in : goal.term-head_of-requires-clause-rest_in
term-head_of-requires-clause-rest_in t c =
    let later = later-rest (λ (item : ℕ). (c.args.item < item) × (item < length c.args.self.now.forest.now.items))
    c.members-children.result.now c.members-children.ensures.later in
    λ k d lt. (later k d lt).1

pub term-application-requires : goal.term-application-requires
term-application-requires t c =
    let later = later-rest (λ (item : ℕ). (c.args.item < item) × (item < length c.args.self.now.forest.now.items))
    c.members-children.result.now c.members-children.ensures.later in (
      omega (arith, c.decreases, c.requires.item_in),
      (
        c.requires.reading,
        (
          c.requires.item_in,
          (
            later,
            c.requires.names,
          ),
        ),
      ),
    )

pub term-access-requires : goal.term-access-requires
term-access-requires t c =
    let later = later-rest (λ (item : ℕ). (c.args.item < item) × (item < length c.args.self.now.forest.now.items))
    c.members-children.result.now c.members-children.ensures.later in (
      omega (arith, c.decreases, c.requires.item_in),
      (
        c.requires.reading,
        (
          c.requires.item_in,
          (
            later,
            c.requires.names,
          ),
        ),
      ),
    )

pub term-binding-requires : goal.term-binding-requires
term-binding-requires t c =
    let later = later-rest (λ (item : ℕ). (c.args.item < item) × (item < length c.args.self.now.forest.now.items))
    c.members-children.result.now c.members-children.ensures.later in (
      omega (arith, c.decreases, c.requires.item_in),
      (
        c.requires.reading,
        (
          c.requires.item_in,
          (
            later,
            c.requires.names,
          ),
        ),
      ),
    )

pub term-returns-in-Applied-clause-read : goal.term-returns-in-Applied-clause-read
term-returns-in-Applied-clause-read t c =
    let f = tree_at c.args.self.now.bytes.now c.args.self.now.forest.now.items in
    subst (λ read. IsRead c.application.new.terms read c.application.result)
    (sym (headed-rest c.args.terms.now.pointer (scope_of c.args.terms.now c.args.scope.now) (f c.args.item) f
    c.members-children.result.now _ c.span-span.result (Ok (head.Applied c.in-Applied.operator))
    (rest-is c.members-children.result.now) c.in-len1-up.len_at_least
    c.members-children.ensures.members c.span-span.ensures (ap Ok (sym c.in-Applied.is) ∙ c.in_ok-op.ensures)))
    c.application.ensures.read

pub term-returns-in-Accessing-clause-read : goal.term-returns-in-Accessing-clause-read
term-returns-in-Accessing-clause-read t c =
    let f = tree_at c.args.self.now.bytes.now c.args.self.now.forest.now.items in
    subst (λ read. IsRead c.access.new.terms read c.access.result)
    (sym (headed-rest c.args.terms.now.pointer (scope_of c.args.terms.now c.args.scope.now) (f c.args.item) f
    c.members-children.result.now _ c.span-span.result (Ok (head.Accessing c.in-Accessing.access))
    (rest-is c.members-children.result.now) c.in-len1-up.len_at_least
    c.members-children.ensures.members c.span-span.ensures (ap Ok (sym c.in-Accessing.is) ∙ c.in_ok-op.ensures)))
    c.access.ensures.read

pub term-returns-in-Binding-clause-read : goal.term-returns-in-Binding-clause-read
term-returns-in-Binding-clause-read t c =
    let f = tree_at c.args.self.now.bytes.now c.args.self.now.forest.now.items in
    subst (λ read. IsRead c.binding.new.terms read c.binding.result)
    (sym (headed-rest c.args.terms.now.pointer (scope_of c.args.terms.now c.args.scope.now) (f c.args.item) f
    c.members-children.result.now _ c.span-span.result (Ok head.Binding)
    (rest-is c.members-children.result.now) c.in-len1-up.len_at_least
    c.members-children.ensures.members c.span-span.ensures (ap Ok (sym c.in-Binding.is) ∙ c.in_ok-op.ensures)))
    c.binding.ensures.read

-- ---- the terms of arguments

pub terms-term-requires : goal.terms-term-requires
terms-term-requires t c =
    let later = c.requires.later c.loop-item.item-index 0 (omega arith) in (
      omega (arith, c.decreases, later.0, later.1),
      (
        c.requires.reading,
        (
          later.1,
          in-same c.args.terms.now c.loop-item.terms c.args.scope.now c.loop-item.scope c.loop-item.invariant.extends
              c.loop-item.invariant.names c.requires.names,
        ),
      ),
    )

pub terms-loop-item-init : goal.terms-loop-item-init
terms-loop-item-init t c =
    let f = tree_at c.args.self.now.bytes.now c.args.self.now.forest.now.items in
    let p = c.args.terms.now.pointer in
    let scope = scope_of c.args.terms.now c.args.scope.now in
    let all = trees_by f c.args.items.now in
    record {
      extends = Extends-itself c.args.terms.now;
      names = (refl, refl);
      read = subst (HasTerms p scope all all c.args.terms.now) (sym c.new-args.ensures.items)
          (terms_none p scope all c.args.terms.now);
    }

pub terms-loop-item-preserved : goal.terms-loop-item-preserved
terms-loop-item-preserved t c =
    let f = tree_at c.args.self.now.bytes.now c.args.self.now.forest.now.items in
    let p = c.args.terms.now.pointer in
    let scope = scope_of c.args.terms.now c.args.scope.now in
    let all = trees_by f c.args.items.now in
    record {
      extends = Extends-further c.args.terms.now c.loop-item.terms c.term.new.terms c.loop-item.invariant.extends
          c.in_ok-arg.ensures.extends;
      names = KeepsNames-further c.args.scope.now c.loop-item.scope c.term.new.scope c.loop-item.invariant.names
          c.in_ok-arg.ensures.scope;
      read = subst (HasTerms p scope all (trees_by f (drop (c.loop-item.item-index + 1) c.args.items.now))
          c.term.new.terms) (sym c.in_ok-push.ensures.items)
          (terms-next c.args.terms.now c.loop-item.terms c.term.new.terms c.args.scope.now c.loop-item.scope f
          c.args.items.now c.loop-item.item-index c.loop-item.args.items c.in_ok-arg.arg all (omega arith)
          c.loop-item.invariant.extends c.loop-item.invariant.names c.requires.names c.loop-item.invariant.read
          c.in_ok-arg.ensures.extends c.in_ok-arg.ensures.read);
    }

pub terms-returns-in_err-arg-clause-read : goal.terms-returns-in_err-arg-clause-read
terms-returns-in_err-arg-clause-read t c =
    let is = err_from_is_err_and c.from_residual.result c.from_residual.ensures.1 in
    let f = tree_at c.args.self.now.bytes.now c.args.self.now.forest.now.items in
    let p = c.args.terms.now.pointer in
    let scope = scope_of c.args.terms.now c.args.scope.now in
    subst (AreRead c.term.new.terms (terms_read p scope (trees_by f c.args.items.now))) (sym (is.1 ∙ ap Err is.2))
    (terms-stop c.args.terms.now c.loop-item.terms c.term.new.terms c.args.scope.now c.loop-item.scope f
    c.args.items.now c.loop-item.item-index c.loop-item.args.items c.in_err-arg.field-0.0
    (trees_by f c.args.items.now) (omega arith) c.loop-item.invariant.extends c.loop-item.invariant.names
    c.requires.names c.loop-item.invariant.read c.in_err-arg.ensures.read)

pub terms-returns-clause-read : goal.terms-returns-clause-read
terms-returns-clause-read t c =
    let f = tree_at c.args.self.now.bytes.now c.args.self.now.forest.now.items in (
      c.loop-item.invariant.read.within,
      terms-done c.args.terms.now.pointer (scope_of c.args.terms.now c.args.scope.now) f c.args.items.now
          c.loop-item.item-index c.loop-item.terms c.loop-item.args.items (trees_by f c.args.items.now) (omega arith)
          c.loop-item.invariant.read,
    )

-- ---- the terms of bindings

pub bound_terms-loop-item-init : goal.bound_terms-loop-item-init
bound_terms-loop-item-init t c =
    let f = tree_at c.args.self.now.bytes.now c.args.self.now.forest.now.items in
    let p = c.args.terms.now.pointer in
    let scope = scope_of c.args.terms.now c.args.scope.now in
    let all = trees_by f c.args.bindings.now in
    record {
      extends = Extends-itself c.args.terms.now;
      names = (refl, refl);
      read = subst (HasBound p scope all all [] c.args.terms.now) (sym c.new-bound.ensures)
          (bound_none p scope all c.args.terms.now);
    }

pub bound_terms-unwrap-term-requires : goal.bound_terms-unwrap-term-requires
bound_terms-unwrap-term-requires t c =
    let f = tree_at c.args.self.now.bytes.now c.args.self.now.forest.now.items in
    mapped-some _ c.binding.result
    (subst IsSome (sym c.binding.ensures.value)
    (pair-there (span_of (f c.args.list)) f c.args.bindings.now c.loop-item.item-index c.requires.fit (omega arith)))

pub bound_terms-unwrap-name-requires : goal.bound_terms-unwrap-name-requires
bound_terms-unwrap-name-requires t c =
    let f = tree_at c.args.self.now.bytes.now c.args.self.now.forest.now.items in
    let pair : Some (c.unwrap-term.result.0.now, f c.unwrap-term.result.1)
    ≡ bound_pair (f (get_or c.args.bindings.now c.loop-item.item-index 0)) =
    (λ i. option_map {U = List ℕ × Tree} (λ b. (b.0.now, f b.1)) (sym c.unwrap-term.ensures i))
    ∙ c.binding.ensures.value in
    mapped-some _ c.name.result
    (subst IsSome (sym c.name.ensures)
    (name-there (is_name c.unwrap-term.result.0.now) c.unwrap-term.result.0.now
    (word-is-name (span_of (f c.args.list)) f c.args.bindings.now c.loop-item.item-index c.unwrap-term.result.0.now
    c.unwrap-term.result.1 c.requires.fit (omega arith) pair)))

pub bound_terms-term-requires : goal.bound_terms-term-requires
bound_terms-term-requires t c =
    let outer = c.requires.later c.loop-item.item-index 0 (omega arith) in
    let later = subst (λ o. IfSome o (λ b. (get_or c.args.bindings.now c.loop-item.item-index 0 < b.1)
    × (b.1 < length c.args.self.now.forest.now.items))) c.unwrap-term.ensures c.binding.ensures.later in (
      omega (arith, c.decreases, outer.0, outer.1, later.0, later.1),
      (
        c.requires.reading,
        (
          later.1,
          in-same c.args.terms.now c.loop-item.terms c.args.scope.now c.loop-item.scope c.loop-item.invariant.extends
              c.loop-item.invariant.names c.requires.names,
        ),
      ),
    )

pub bound_terms-insert-requires : goal.bound_terms-insert-requires
bound_terms-insert-requires t c = λ there.
    let f = tree_at c.args.self.now.bytes.now c.args.self.now.forest.now.items in
    let p = c.args.terms.now.pointer in
    let scope = scope_of c.args.terms.now c.args.scope.now in
    let all = trees_by f c.args.bindings.now in
    let pair : Some (c.unwrap-term.result.0.now, f c.unwrap-term.result.1)
    ≡ bound_pair (f (get_or c.args.bindings.now c.loop-item.item-index 0)) =
    (λ i. option_map {U = List ℕ × Tree} (λ b. (b.0.now, f b.1)) (sym c.unwrap-term.ensures i))
    ∙ c.binding.ensures.value in
    let same = name-parts (is_name c.unwrap-term.result.0.now) c.unwrap-name.result.now c.unwrap-term.result.0.now
    ((λ i. option_map {U = List ℕ} (λ name. name.now) (sym c.unwrap-name.ensures i)) ∙ c.name.ensures) in
    bound-new p scope (span_of (f c.args.list)) f c.args.bindings.now c.loop-item.item-index c.loop-item.terms
    c.loop-item.bound c.unwrap-term.result.0.now c.unwrap-term.result.1 all
    (trees_by f (drop c.loop-item.item-index c.args.bindings.now)) (omega arith) c.requires.fit pair
    c.loop-item.invariant.read
    (subst (Contains (names_in c.loop-item.bound)) (c.in_ok-from_str.ensures.ok ∙ same.1) there)

pub bound_terms-loop-item-preserved : goal.bound_terms-loop-item-preserved
bound_terms-loop-item-preserved t c =
    let f = tree_at c.args.self.now.bytes.now c.args.self.now.forest.now.items in
    let p = c.args.terms.now.pointer in
    let scope = scope_of c.args.terms.now c.args.scope.now in
    let all = trees_by f c.args.bindings.now in
    let pair : Some (c.unwrap-term.result.0.now, f c.unwrap-term.result.1)
    ≡ bound_pair (f (get_or c.args.bindings.now c.loop-item.item-index 0)) =
    (λ i. option_map {U = List ℕ × Tree} (λ b. (b.0.now, f b.1)) (sym c.unwrap-term.ensures i))
    ∙ c.binding.ensures.value in
    let same = name-parts (is_name c.unwrap-term.result.0.now) c.unwrap-name.result.now c.unwrap-term.result.0.now
    ((λ i. option_map {U = List ℕ} (λ name. name.now) (sym c.unwrap-name.ensures i)) ∙ c.name.ensures) in
    record {
      extends = Extends-further c.args.terms.now c.loop-item.terms c.term.new.terms c.loop-item.invariant.extends
          c.in_ok-at.ensures.extends;
      names = KeepsNames-further c.args.scope.now c.loop-item.scope c.term.new.scope c.loop-item.invariant.names
          c.in_ok-at.ensures.scope;
      read = subst (HasBound p scope all (trees_by f (drop (c.loop-item.item-index + 1) c.args.bindings.now))
          (take (c.loop-item.item-index + 1) (map f c.args.bindings.now)) c.term.new.terms)
          (sym (c.in_ok-insert.ensures.ok
          ∙ ap (λ n. c.loop-item.bound ++ (n, c.in_ok-at.at) ∷ []) (c.in_ok-from_str.ensures.ok ∙ same.1)))
          (bound-next c.args.terms.now c.loop-item.terms c.term.new.terms c.args.scope.now c.loop-item.scope
          (span_of (f c.args.list)) f c.args.bindings.now c.loop-item.item-index c.loop-item.bound
          c.unwrap-term.result.0.now c.unwrap-term.result.1 c.in_ok-at.at all (omega arith)
          c.loop-item.invariant.extends c.loop-item.invariant.names c.requires.names c.requires.fit pair
          c.loop-item.invariant.read c.in_ok-at.ensures.extends c.in_ok-at.ensures.read);
    }

pub bound_terms-returns-in_err-at-clause-read : goal.bound_terms-returns-in_err-at-clause-read
bound_terms-returns-in_err-at-clause-read t c =
    let f = tree_at c.args.self.now.bytes.now c.args.self.now.forest.now.items in
    let p = c.args.terms.now.pointer in
    let scope = scope_of c.args.terms.now c.args.scope.now in
    let all = trees_by f c.args.bindings.now in
    let pair : Some (c.unwrap-term.result.0.now, f c.unwrap-term.result.1)
    ≡ bound_pair (f (get_or c.args.bindings.now c.loop-item.item-index 0)) =
    (λ i. option_map {U = List ℕ × Tree} (λ b. (b.0.now, f b.1)) (sym c.unwrap-term.ensures i))
    ∙ c.binding.ensures.value in
    let is = err_from_is_err_and c.from_residual.result c.from_residual.ensures.1 in
    subst (NamesAreRead c.term.new.terms (bindings_read p scope all)) (sym (is.1 ∙ ap Err is.2))
    (bound-stop c.args.terms.now c.loop-item.terms c.term.new.terms c.args.scope.now c.loop-item.scope
    (span_of (f c.args.list)) f c.args.bindings.now c.loop-item.item-index c.loop-item.bound
    c.unwrap-term.result.0.now c.unwrap-term.result.1 c.in_err-at.field-0.0 all (omega arith)
    c.loop-item.invariant.extends c.loop-item.invariant.names c.requires.names c.requires.fit pair
    c.loop-item.invariant.read c.in_err-at.ensures.read)

pub bound_terms-returns-clause-read : goal.bound_terms-returns-clause-read
bound_terms-returns-clause-read t c =
    let f = tree_at c.args.self.now.bytes.now c.args.self.now.forest.now.items in
    let p = c.args.terms.now.pointer in
    let scope = scope_of c.args.terms.now c.args.scope.now in
    let all = trees_by f c.args.bindings.now in (
      c.loop-item.invariant.read.within,
      bound-done p scope f c.args.bindings.now c.loop-item.item-index
          (take c.loop-item.item-index (map f c.args.bindings.now)) c.loop-item.terms c.loop-item.bound all
          (omega arith) c.loop-item.invariant.read,
    )
