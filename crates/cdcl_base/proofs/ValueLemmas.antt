-- The value of a variable, by the truth of its two literals.
use Rattle.std.proofs.Common.{◌≡◌, ℕ, ◌+◌, ◌*◌, ◌<◌, Bool, true, false, List, sym, ap, ◌∙◌, get_or, length, arith}
use Rattle.std.specs.Bool.{beq}
use Rattle.std.proofs.lemmas.Option.{unwrap_or-slice_get}
use Rattle.cnf_core.specs.declared.clause.Lit.{Lit}
use Rattle.cnf_core.specs.Clause.{contains, assigned}
use Rattle.cdcl_base.specs.Codes.{code}
use Rattle.cdcl_base.specs.Trail.{HasDistinctVariables}
use Rattle.cdcl_base.proofs.Places.{opposite_not_true}
use Rattle.list_lemmas.proofs.Lookups.{get_or_default}

abbrev pub lit : ℕ → Bool → Lit
lit x sign = record { variable = x; positive = sign }

pub truth_at : (truths : List Bool) (k : ℕ) (d b : Bool) → k < length truths → d ≡ get_or truths k d → d ≡ b →
    assigned truths k ≡ b
truth_at truths k d b lt is e =
    unwrap_or-slice_get truths k false ∙ get_or_default truths k false d lt ∙ sym is ∙ e

abbrev pub Agree : List Bool → List Lit → Type 0
Agree truths lits = (l : Lit) → assigned truths (code l) ≡ contains lits l

at-negative : (truths : List Bool) (lits : List Lit) (x : ℕ) (b : Bool) → Agree truths lits →
    assigned truths (2 * x) ≡ b → contains lits (lit x false) ≡ b
at-negative truths lits x b agree h =
    let same : 2 * x + 0 ≡ 2 * x = omega arith in
    sym (agree (lit x false)) ∙ ap (assigned truths) same ∙ h

pub value-true : (truths : List Bool) (lits : List Lit) (x : ℕ) → HasDistinctVariables lits → Agree truths lits →
    assigned truths (2 * x + 1) ≡ true → (sign : Bool) → contains lits (lit x sign) ≡ beq true sign
value-true truths lits x distinct agree h true = sym (agree (lit x true)) ∙ h
value-true truths lits x distinct agree h false =
    opposite_not_true lits (lit x true) distinct (sym (agree (lit x true)) ∙ h)

pub value-false : (truths : List Bool) (lits : List Lit) (x : ℕ) → HasDistinctVariables lits → Agree truths lits →
    assigned truths (2 * x) ≡ true → (sign : Bool) → contains lits (lit x sign) ≡ beq false sign
value-false truths lits x distinct agree h true =
    opposite_not_true lits (lit x false) distinct (at-negative truths lits x true agree h)
value-false truths lits x distinct agree h false = at-negative truths lits x true agree h

pub value-none : (truths : List Bool) (lits : List Lit) (x : ℕ) → Agree truths lits →
    assigned truths (2 * x + 1) ≡ false → assigned truths (2 * x) ≡ false → (sign : Bool) →
    contains lits (lit x sign) ≡ false
value-none truths lits x agree h k true = sym (agree (lit x true)) ∙ h
value-none truths lits x agree h k false = at-negative truths lits x false agree k
