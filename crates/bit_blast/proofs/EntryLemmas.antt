-- Look-ups of the words of nodes.
use Rattle.std.proofs.Common.{◌≡◌, ◌∙◌, ℕ, ◌==◌, Bool, true, false, cond, List, [], ◌∷◌, Option, Some, None, IsSome}
use Rattle.std.proofs.Common.{Contains, refl, sym, ap, subst, ⊎_elim, arith}
use Rattle.std.specs.Map.{lookup}
use Rattle.std.specs.Option.{option_copied}
use Rattle.std.proofs.lemmas.Bool.{eq-eqb, false≢true}
use Rattle.std.proofs.lemmas.Bool.Decides.{Decides-eqb}
use denote.Bor.{Bor}
use Rattle.bv_terms.specs.declared.op.TermId.{TermId}
use Rattle.circuit.specs.declared.signal.Signal.{Signal}
use Rattle.bit_blast.specs.Words.{HasWord}
use Rattle.list_lemmas.proofs.Lookups.{Contains-cases, Contains-first, Contains-later}

-- a test for a node
abbrev pub IsTestFor : TermId → (TermId → Bool) → Type 0
IsTestFor at test = (k : TermId) → test k ≡ (at.0 == k.0)

pub same-id : (a b : TermId) → (a.0 == b.0) ≡ true → a ≡ b
same-id a b h = ap (λ (n : ℕ). let id : TermId = record { 0 = n } in id) ((Decides-eqb a.0 b.0).0 h)

module _ (at : TermId) (test : TermId → Bool) (is : IsTestFor at test) where
  lookup-there : (es : List (TermId × List Signal)) (word : List Signal) → Contains es (at, word)
      → IsSome (lookup test es)
  lookup-there [] word h = absurd (omega (arith, h.1))
  lookup-there (e ∷ es) word h = by (λ later. lookup-there es word later) (test e.0) refl
    where
      by : (Contains es (at, word) → IsSome (lookup test es)) → (b : Bool) → test e.0 ≡ b
          → IsSome (cond b (Some e.1) (lookup test es))
      by rest true t = refl
      by rest false t = ⊎_elim
          (λ here. absurd (false≢true (sym t ∙ ap test (ap (λ (p : TermId × List Signal). p.0) here)
          ∙ is at ∙ eq-eqb at.0 at.0 refl)))
          rest (Contains-cases e (at, word) es h)

  lookup-found : (es : List (TermId × List Signal)) (word : List Signal) → lookup test es ≡ Some word
      → Contains es (at, word)
  lookup-found [] word h = absurd (cc)
  lookup-found (e ∷ es) word h = by (λ s. lookup-found es word s) (test e.0) refl h
    where
      by : (lookup test es ≡ Some word → Contains es (at, word)) → (b : Bool) → test e.0 ≡ b
          → cond b (Some e.1) (lookup test es) ≡ Some word → Contains (e ∷ es) (at, word)
      by rest true t s =
          let key : at ≡ e.0 = same-id at e.0 (sym (is e.0) ∙ t) in
          let value : e.1 ≡ word = cc in
          subst (Contains (e ∷ es)) (ap (λ k. (k, e.1)) (sym key) ∙ ap (λ w. (at, w)) value) (Contains-first e es)
      by rest false t s = Contains-later e (at, word) es (rest s)

  some-word : (o : Option (List Signal)) → IsSome o → (word : List Signal) × (o ≡ Some word)
  some-word None some = absurd (false≢true some)
  some-word (Some word) some = (word, refl)

  -- a node has a word where a look-up finds one
  pub has-found : (es : List (TermId × List Signal)) → IsSome (lookup test es) → HasWord es at
  has-found es some = let found = some-word (lookup test es) some in (found.0, lookup-found es found.0 found.1)

  pub word-some : (es : List (TermId × List Signal)) (o : Option (Bor (List Signal)))
      → option_copied o ≡ lookup test es → HasWord es at → IsSome o
  word-some es None e has = absurd (false≢true (subst IsSome (sym e) (lookup-there es has.0 has.1)))
  word-some es (Some word) e has = refl

  pub word-found : (es : List (TermId × List Signal)) (o : Option (Bor (List Signal))) (b : Bor (List Signal))
      → option_copied o ≡ lookup test es → o ≡ Some b → Contains es (at, b.now)
  word-found es o b e is_b = lookup-found es b.now (sym e ∙ ap option_copied is_b)
