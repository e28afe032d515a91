use Rattle.std.proofs.Common.{ap, ◌∙◌, reverse, ◌≡◌, Option, Some}
use Rattle.std.specs.Option.{option_or}
use Rattle.collections.specs.Named.{named}
use Rattle.bv_terms.specs.declared.op.TermId.{TermId}
use Rattle.term_text.proofs.ScopeLemmas.{joined, find-is, find-within}
use Rattle.term_text.proofs.scope.Scope.find.Goals as goal

found : (c : goal.In-Some) → ◌≡◌ {A = Option TermId} (Some c.in-Some.at) (option_or
    (named (joined (reverse c.args.self.now.bound.items)) c.in_ok-name.name.now)
    (named c.args.self.now.outer.now c.in_ok-name.name.now))
found c =
    ap (λ o. option_or o (named c.args.self.now.outer.now c.in_ok-name.name.now))
    (c.in-Some.ensures
    ∙ ap (λ maps. named (joined (reverse maps)) c.in_ok-name.name.now) c.as_slice.ensures.value)

pub returns-in-Some-clause-value : goal.returns-in-Some-clause-value
returns-in-Some-clause-value c =
    λ table. find-is table (joined (reverse c.args.self.now.bound.items)) c.args.self.now.outer.now c.args.word.now
    c.in_ok-name.name.now _ c.in_ok-name.ensures (found c)

pub returns-in-Some-clause-within : goal.returns-in-Some-clause-within
returns-in-Some-clause-within c =
    λ table all. find-within table (joined (reverse c.args.self.now.bound.items)) c.args.self.now.outer.now
    c.in_ok-name.name.now (Some c.in-Some.at) (found c) all

pub returns-in-None-clause-value : goal.returns-in-None-clause-value
returns-in-None-clause-value c =
    λ table. find-is table (joined (reverse c.args.self.now.bound.items)) c.args.self.now.outer.now c.args.word.now
    c.in_ok-name.name.now _ c.in_ok-name.ensures (c.copied.ensures ∙ c.find.ensures
    ∙ ap (λ o. option_or o (named c.args.self.now.outer.now c.in_ok-name.name.now))
    (c.in-None.ensures
    ∙ ap (λ maps. named (joined (reverse maps)) c.in_ok-name.name.now) c.as_slice.ensures.value))

pub returns-in-None-clause-within : goal.returns-in-None-clause-within
returns-in-None-clause-within c =
    λ table all. find-within table (joined (reverse c.args.self.now.bound.items)) c.args.self.now.outer.now
    c.in_ok-name.name.now c.copied.result (c.copied.ensures ∙ c.find.ensures
    ∙ ap (λ o. option_or o (named c.args.self.now.outer.now c.in_ok-name.name.now))
    (c.in-None.ensures
    ∙ ap (λ maps. named (joined (reverse maps)) c.in_ok-name.name.now) c.as_slice.ensures.value)) all
