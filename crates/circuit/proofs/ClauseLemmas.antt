-- Clauses that say together what a gate's value is.
use Rattle.std.proofs.Common.{◌≡◌, ℕ, ◌&&◌, ◌||◌, Bool, true, false, not, [], ◌∷◌, ◌++◌, refl, sym, ap}
use Rattle.std.proofs.Common.{◌∙◌, append_assoc, if◌then◌else◌}
use Rattle.std.proofs.lemmas.List.Folds.{list_all-append}
use Rattle.std.proofs.Math.Bool.{and-true}
use Rattle.std.specs.Bool.{beq}
use Rattle.cnf_core.specs.declared.clause.Lit.{Lit}
use Rattle.cnf_core.specs.declared.clause.Clause.{Clause}
use Rattle.cnf_core.specs.Clause.{lit_true, clause_true, is_model, opposite}
use Rattle.list_lemmas.proofs.Bools.{not-not}
use Rattle.cnf_core.specs.Formula.{Formula}
use Rattle.circuit.specs.Gate.{xor, majority, parity}
use Rattle.circuit.specs.Added.{Adds}

pub adds-clause : (old new : Formula) (c : Clause) →
    new ≡ record { variables = old.variables; clauses = old.clauses ++ c ∷ [] } →
    Adds old new (λ v. clause_true v c.lits)
adds-clause old new c e =
    record {
      variables = ap (λ (f : Formula). f.variables) e;
      more_clauses = c ∷ [];
      clauses = ap (λ (f : Formula). f.clauses) e;
      models = λ v. and-true (clause_true v c.lits);
    }

pub adds-then : {old mid new : Formula} {s t : (ℕ → Bool) → Bool} → Adds old mid s → Adds mid new t →
    Adds old new (λ v. s v && t v)
adds-then {old} {mid} {new} {s} {t} first second =
    record {
      variables = second.variables ∙ first.variables;
      more_clauses = first.more_clauses ++ second.more_clauses;
      clauses =
          second.clauses ∙ ap (λ cs. cs ++ second.more_clauses) first.clauses
          ∙ append_assoc old.clauses first.more_clauses second.more_clauses;
      models =
          λ v. list_all-append (λ (c : Clause). clause_true v c.lits) first.more_clauses second.more_clauses
          ∙ ap (λ b. b && is_model v second.more_clauses) (first.models v)
          ∙ ap (λ b. s v && b) (second.models v);
    }

pub adds-as : {old new : Formula} {s t : (ℕ → Bool) → Bool} → Adds old new s → ((v : ℕ → Bool) → s v ≡ t v) →
    Adds old new t
adds-as {old} {new} {s} {t} is same =
    record {
      variables = is.variables;
      more_clauses = is.more_clauses;
      clauses = is.clauses;
      models = λ v. is.models v ∙ same v;
    }

pub opposite-true : (m l : Lit) → m ≡ opposite l → (v : ℕ → Bool) → lit_true v m ≡ not (lit_true v l)
opposite-true m l e v = ap (lit_true v) e ∙ signs l.positive (v l.variable)
  where
    signs : (sign value : Bool) →
        (if not sign then value else not value) ≡ not (if sign then value else not value)
    signs true value = refl
    signs false value = sym (not-not value)

-- ---- tables of truth values

pub and-clauses : (g a b : Bool) →
    ((not g || (a || false)) && (not g || (b || false)) && (g || (not a || (not b || false)))) ≡ beq g (a && b)
and-clauses true true true = refl
and-clauses true true false = refl
and-clauses true false true = refl
and-clauses true false false = refl
and-clauses false true true = refl
and-clauses false true false = refl
and-clauses false false true = refl
and-clauses false false false = refl

pub equal-clauses : (x a b : Bool) →
    ((x || (a || (not b || false))) && (x || (not a || (b || false)))) ≡ (x || beq a b)
equal-clauses true true true = refl
equal-clauses true true false = refl
equal-clauses true false true = refl
equal-clauses true false false = refl
equal-clauses false true true = refl
equal-clauses false true false = refl
equal-clauses false false true = refl
equal-clauses false false false = refl

pub xor-clauses : (x g a b : Bool) →
    ((x || (not g || (a || (b || false)))) && (x || (not g || (not a || (not b || false))))
    && (x || (g || (a || (not b || false)))) && (x || (g || (not a || (b || false))))) ≡ (x || beq g (xor a b))
xor-clauses true true true true = refl
xor-clauses true true true false = refl
xor-clauses true true false true = refl
xor-clauses true true false false = refl
xor-clauses true false true true = refl
xor-clauses true false true false = refl
xor-clauses true false false true = refl
xor-clauses true false false false = refl
xor-clauses false true true true = refl
xor-clauses false true true false = refl
xor-clauses false true false true = refl
xor-clauses false true false false = refl
xor-clauses false false true true = refl
xor-clauses false false true false = refl
xor-clauses false false false true = refl
xor-clauses false false false false = refl

pub two-clauses : (g a b c : Bool) →
    ((g || (not a || (not b || false))) && (g || (not a || (not c || false))) && (g || (not b || (not c || false))))
    ≡ (g || not (majority a b c))
two-clauses true true true true = refl
two-clauses true true true false = refl
two-clauses true true false true = refl
two-clauses true true false false = refl
two-clauses true false true true = refl
two-clauses true false true false = refl
two-clauses true false false true = refl
two-clauses true false false false = refl
two-clauses false true true true = refl
two-clauses false true true false = refl
two-clauses false true false true = refl
two-clauses false true false false = refl
two-clauses false false true true = refl
two-clauses false false true false = refl
two-clauses false false false true = refl
two-clauses false false false false = refl

pub choice-clauses : (g a b c : Bool) →
    ((not a || beq g b) && (a || beq g c)) ≡ beq g (if a then b else c)
choice-clauses true true true true = refl
choice-clauses true true true false = refl
choice-clauses true true false true = refl
choice-clauses true true false false = refl
choice-clauses true false true true = refl
choice-clauses true false true false = refl
choice-clauses true false false true = refl
choice-clauses true false false false = refl
choice-clauses false true true true = refl
choice-clauses false true true false = refl
choice-clauses false true false true = refl
choice-clauses false true false false = refl
choice-clauses false false true true = refl
choice-clauses false false true false = refl
choice-clauses false false false true = refl
choice-clauses false false false false = refl

pub choice-xor : (g a b : Bool) →
    beq g (if a then not b else b) ≡ beq g (xor a b)
choice-xor true true true = refl
choice-xor true true false = refl
choice-xor true false true = refl
choice-xor true false false = refl
choice-xor false true true = refl
choice-xor false true false = refl
choice-xor false false true = refl
choice-xor false false false = refl

pub majority-clauses : (g a b c : Bool) →
    ((g || not (majority a b c)) && (not g || not (majority (not a) (not b) (not c)))) ≡ beq g (majority a b c)
majority-clauses true true true true = refl
majority-clauses true true true false = refl
majority-clauses true true false true = refl
majority-clauses true true false false = refl
majority-clauses true false true true = refl
majority-clauses true false true false = refl
majority-clauses true false false true = refl
majority-clauses true false false false = refl
majority-clauses false true true true = refl
majority-clauses false true true false = refl
majority-clauses false true false true = refl
majority-clauses false true false false = refl
majority-clauses false false true true = refl
majority-clauses false false true false = refl
majority-clauses false false false true = refl
majority-clauses false false false false = refl

pub parity-clauses : (g a b c : Bool) →
    ((a || beq g (xor b c)) && (not a || beq (not g) (xor b c))) ≡ beq g (parity a b c)
parity-clauses true true true true = refl
parity-clauses true true true false = refl
parity-clauses true true false true = refl
parity-clauses true true false false = refl
parity-clauses true false true true = refl
parity-clauses true false true false = refl
parity-clauses true false false true = refl
parity-clauses true false false false = refl
parity-clauses false true true true = refl
parity-clauses false true true false = refl
parity-clauses false true false true = refl
parity-clauses false true false false = refl
parity-clauses false false true true = refl
parity-clauses false false true false = refl
parity-clauses false false false true = refl
parity-clauses false false false false = refl
