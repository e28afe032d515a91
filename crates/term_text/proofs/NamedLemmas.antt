-- Terms whose inputs have names.
use Rattle.std.proofs.Common.{◌≡◌, ℕ, ◌<◌, List, [], ◌∷◌, Some, All, slice_get, sym, subst}
use Rattle.std.specs.List.{AllByRecursion}
use Rattle.std.proofs.lemmas.List.Elements.{recursion_from_All}
use Rattle.bv_terms.specs.declared.op.Op.{Op}
use Rattle.bv_terms.specs.declared.op.TermId.{TermId}
use Rattle.bv_terms.specs.Term.{Term, Operands, Apply}
use Rattle.bv_terms.specs.Table.{Entry, Table, IsTable, terms_of, term_in, operands}
use Rattle.bv_terms.proofs.TableLemmas.{term_at-node}
use Rattle.term_text.specs.Text.{InputIsNamed, InputsAreNamed, AllInputsAreNamed}

named-operands : (names : List (List ℕ)) (ts : List Term) (n : ℕ)
    → ((j : ℕ) → j < n → InputsAreNamed names (term_in ts j)) → (args : List TermId)
    → AllByRecursion (λ (a : TermId). a.0 < n) args → AllInputsAreNamed names (operands ts args)
unfolding InputsAreNamed
named-operands names ts n named [] below = tt
named-operands names ts n named (a ∷ args) below =
    (named a.0 below.0, named-operands names ts n named args below.1)

named-apply : (names : List (List ℕ)) (o : Op) (ts : Operands) → InputIsNamed names o → AllInputsAreNamed names ts
    → InputsAreNamed names (Apply o ts)
unfolding InputsAreNamed
named-apply names o ts own all = (own, all)

-- a node's inputs have names where its own has one and those of all earlier nodes have
pub named-node : (table : Table) → IsTable table → (names : List (List ℕ)) (k : ℕ) (e : Entry)
    → slice_get table.nodes k ≡ Some e → InputIsNamed names e.op
    → ((j : ℕ) → j < k → InputsAreNamed names (term_in (terms_of table) j))
    → InputsAreNamed names (term_in (terms_of table) k)
named-node table is_table names k e h own earlier =
    let below = recursion_from_All (λ (a : TermId). a.0 < k) e.args (is_table.earlier k e h) in
    subst (InputsAreNamed names) (sym (term_at-node table is_table (record { 0 = k }) e h))
    (named-apply names e.op (operands (terms_of table) e.args) own
    (named-operands names (terms_of table) k earlier e.args below))
