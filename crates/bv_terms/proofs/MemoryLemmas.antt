-- Where no input is a memory, a well-sorted term with fitting inputs stands for its value.
use Rattle.std.proofs.Common.{◌≡◌, ℕ, ◌<◌, List, [], ◌∷◌, length, map, option_map, slice_get, unwrap_or}
use Rattle.std.proofs.Common.{Option, None, Some, false, refl, ap, ◌∙◌}
use Rattle.std.proofs.lemmas.Option.{slice_get-map}
use Rattle.bv_terms.specs.declared.op.Op.{Op}
use Rattle.bv_terms.specs.declared.op.Op.TheVariants as op
use Rattle.bv_terms.specs.declared.op.TermId.{TermId}
use Rattle.bv_terms.specs.declared.signature.Slot.TheVariants.{Pointer, Accessed}
use Rattle.bv_terms.specs.declared.signature.IndexRule.TheVariants.{Access}
use Rattle.bv_terms.specs.declared.value.Sort.{Sort}
use Rattle.bv_terms.specs.declared.value.Value.{Value}
use Rattle.bv_terms.specs.declared.value.Value.TheVariants as val
use Rattle.bv_terms.specs.Term.{Term, Operands, Apply, End, Then, op_value, value, values}
use Rattle.bv_terms.specs.Sorts.{HaveSorts}
use Rattle.bv_terms.specs.WellSorted.{sort_of, sorts_of, InputsFit, AllInputsFit}
use Rattle.bv_terms.specs.Table.{Table, term_at, IsTable}
use Rattle.bv_terms.specs.Memory.{Plain, plain_value, op_thing, thing, things}
use Rattle.bv_terms.proofs.SignatureLemmas.{IsFitting, IsFitting-of}
use Rattle.bv_terms.proofs.MakeLemmas.{node-sorted}
use Rattle.bv_terms.proofs.TermLemmas.{Claim, IsSorted-of, sorts_of-some, on_memory, values-sorted}

plain-values : (vs : List Value) → map plain_value (map Plain vs) ≡ vs
plain-values [] = refl
plain-values (v ∷ vs) = ap (λ vs. v ∷ vs) (plain-values vs)

input-plain : (o : Option Value) → unwrap_or (option_map Plain o) (Plain (val.Bool false))
    ≡ Plain (unwrap_or o (val.Bool false))
input-plain None = refl
input-plain (Some v) = refl

abbrev Agrees : ℕ → List Value → Op → Claim
Agrees p inputs o = λ ss vs. op_thing p (map Plain inputs) o (map Plain vs) ≡ Plain (op_value inputs o vs)

-- an operation over values gives a value; those on memories have no values of their sorts
op_thing-plain : (p : ℕ) (inputs : List Value) (o : Op) (ss : List Sort) (vs : List Value) → IsFitting p o ss
    → HaveSorts ss vs → op_thing p (map Plain inputs) o (map Plain vs) ≡ Plain (op_value inputs o vs)
op_thing-plain p inputs (op.Input k s) ss [] f h =
    ap (λ o. unwrap_or o (Plain (val.Bool false))) (slice_get-map Plain inputs k) ∙ input-plain (slice_get inputs k)
op_thing-plain p inputs (op.MLoad n) ss vs f h =
    on_memory (Agrees p inputs (op.MLoad n)) p (Access n) ss (Pointer ∷ []) vs f.fit h
op_thing-plain p inputs (op.MMark n) ss vs f h =
    on_memory (Agrees p inputs (op.MMark n)) p (Access n) ss (Pointer ∷ []) vs f.fit h
op_thing-plain p inputs (op.MStore n) ss vs f h =
    on_memory (Agrees p inputs (op.MStore n)) p (Access n) ss (Pointer ∷ Accessed ∷ []) vs f.fit h
op_thing-plain p inputs o ss vs f h =
    ap (λ us. Plain (op_value us o (map plain_value (map Plain vs)))) (plain-values inputs)
    ∙ ap (λ us. Plain (op_value inputs o us)) (plain-values vs)

mutual
  unfolding sort_of value InputsFit thing

  pub thing-plain : (p : ℕ) (inputs : List Value) (t : Term) (s : Sort) → sort_of p t ≡ Some s → InputsFit inputs t
      → thing p (map Plain inputs) t ≡ Plain (value inputs t)
  thing-plain p inputs (Apply o ts) s h i =
      let sorted = IsSorted-of p o ts s h in
      ap (op_thing p (map Plain inputs) o) (things-plain p inputs ts sorted.sorts sorted.of_args i.1)
      ∙ op_thing-plain p inputs o sorted.sorts (values inputs ts) (IsFitting-of p o sorted.sorts sorted.fits)
      (values-sorted p inputs ts sorted.sorts sorted.of_args i.1)

  things-plain : (p : ℕ) (inputs : List Value) (ts : Operands) (ss : List Sort) → sorts_of p ts ≡ Some ss
      → AllInputsFit inputs ts → things p (map Plain inputs) ts ≡ map Plain (values inputs ts)
  things-plain p inputs End ss h i = refl
  things-plain p inputs (Then t ts) ss h i =
      let parts = sorts_of-some p t ts ss h in
      ap (λ u. u ∷ things p (map Plain inputs) ts) (thing-plain p inputs t parts.0 parts.3 i.0)
      ∙ ap (λ us. Plain (value inputs t) ∷ us) (things-plain p inputs ts parts.1 parts.4 i.1)

-- the term of a node of a table
pub term-plain : (table : Table) → IsTable table → (inputs : List Value) (at : TermId) → at.0 < length table.nodes
    → InputsFit inputs (term_at table at)
    → thing table.pointer (map Plain inputs) (term_at table at) ≡ Plain (value inputs (term_at table at))
term-plain table is_table inputs at within fit =
    let sorted = node-sorted table is_table at.0 within in
    thing-plain table.pointer inputs (term_at table at) sorted.0 sorted.1 fit
