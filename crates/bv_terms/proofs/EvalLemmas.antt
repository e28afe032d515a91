-- The values that stand by place.
use Rattle.std.proofs.Common.{◌≡◌, ◌≢◌, ℕ, ◌+◌, ◌<◌, ◌≤◌, List, [], ◌∷◌, ◌++◌, ◌⊎◌, inl, inr, Contains}
use Rattle.std.proofs.Common.{length, slice_get, slice_set, unwrap_or, option_map, None, Some, All, false, refl}
use Rattle.std.proofs.Common.{sym, ap, ◌∙◌, subst, ⊎_elim, arith}
use Rattle.std.specs.List.{AllByRecursion}
use Rattle.std.proofs.lemmas.Bool.{cases_lt}
use Rattle.std.proofs.lemmas.List.Elements.{All-weaker, All-push, All-from_recursion}
use Rattle.std.proofs.lemmas.List.Elements.{recursion_from_All, Contains-append_left, Contains-push, All-append}
use Rattle.std.proofs.lemmas.List.Elements.{All-replicate}
use Rattle.std.proofs.lemmas.Option.{same_Some, slice_get-map, slice_get_within}
use Rattle.bv_terms.specs.declared.node.Node.{Node}
use Rattle.bv_terms.specs.declared.op.Op.{Op}
use Rattle.bv_terms.specs.declared.op.TermId.{TermId}
use Rattle.bv_terms.specs.declared.value.Sort.{Sort}
use Rattle.bv_terms.specs.declared.value.Value.{Value}
use Rattle.bv_terms.specs.declared.value.Value.TheVariants as val
use Rattle.bv_terms.specs.Term.{Term, Operands, Apply, op_value, value, values}
use Rattle.bv_terms.specs.Sorts.{HaveSorts}
use Rattle.bv_terms.specs.Signature.{refusal}
use Rattle.bv_terms.specs.WellSorted.{sort_of, sorts_of, InputFits, InputsFit}
use Rattle.bv_terms.specs.WellSorted.{AllInputsFit}
use Rattle.bv_terms.specs.Table.{Entry, Table, term_in, operands, terms_of, term_at, IsTable}
use Rattle.bv_terms.specs.Node.{entry_of, node_of, table_of, IsTermTable}
use Rattle.bv_terms.specs.Eval.{values_in, IsValueOf, IsValued}
use Rattle.bv_terms.proofs.TermLemmas.{IsSorted-of, sorts_of-sized, values-sorted}
use Rattle.bv_terms.proofs.TableLemmas.{term_at-node}
use Rattle.bv_terms.proofs.MakeLemmas.{node-sorted}
use Rattle.bv_terms.proofs.TermTableLemmas.{kept-entry}
use Rattle.list_lemmas.proofs.Lookups.{slice_get-set_other, slice_get-set_same}

-- the arguments of a node stand before it, so in a room for the table
pub node-below : (table : Table) → IsTable table → (k n : ℕ) (e : Entry) → slice_get table.nodes k ≡ Some e
    → length table.nodes ≤ n → All (λ (a : TermId). a.0 < n) e.args
node-below table is_table k n e h room =
    let within = slice_get_within table.nodes k e h in
    All-weaker (λ (a : TermId). a.0 < k) (λ (a : TermId). a.0 < n) (λ a lt. omega arith) e.args (is_table.earlier k e h)

-- and so do those of a kept node in all its places, since unused ones have node 0
pub padded-below : (pointer : ℕ) (kept : List (Node × Sort)) → IsTermTable pointer kept
    → (k n : ℕ) (m : Node) (s : Sort)
    → slice_get kept k ≡ Some (m, s) → length (table_of pointer kept).nodes ≤ n
    → All (λ (a : TermId). a.0 < n) m.args
padded-below pointer kept is k n m s h room =
    let table = table_of pointer kept in
    let stands = kept-entry pointer kept k (m, s) h in
    let node = same_Some m (node_of (entry_of m))
    (sym (slice_get-map (λ (e : Node × Sort). e.0) kept k ∙ ap (option_map (λ (e : Node × Sort). e.0)) h)
    ∙ ap (λ ns. slice_get ns k) is.padded ∙ slice_get-map node_of table.nodes k ∙ ap (option_map node_of) stands) in
    let zero_stands : 0 < n = omega (arith, room, slice_get_within table.nodes k (entry_of m) stands) in
    subst (λ (m : Node). All (λ (a : TermId). a.0 < n) m.args) (sym node)
    (All-append (λ (a : TermId). a.0 < n) (entry_of m).args _ (node-below table is.table k n (entry_of m) stands room)
    (All-replicate (λ (a : TermId). a.0 < n) _ (record { 0 = 0 }) zero_stands))

-- the places below n have the values of their nodes' terms, where the inputs of these fit
abbrev pub IsFilled : Table → List Value → List Value → ℕ → Type 0
IsFilled table inputs room n =
    (k : ℕ) → k < n → InputsFit inputs (term_in (terms_of table) k)
    → slice_get room k ≡ Some (value inputs (term_in (terms_of table) k))

values-valued : (table : Table) (inputs room : List Value) (args : List TermId)
    → AllByRecursion (IsValued table inputs room) args
    → values_in room args ≡ values inputs (operands (terms_of table) args)
unfolding value
values-valued table inputs room [] valued = refl
values-valued table inputs room (a ∷ args) valued =
    ap (λ v. v ∷ values_in room args) (ap (λ o. unwrap_or o (val.Bool false)) valued.0)
    ∙ ap (λ vs. value inputs (term_at table a) ∷ vs) (values-valued table inputs room args valued.1)

InputsFit-parts : (inputs : List Value) (o : Op) (ts : Operands) → InputsFit inputs (Apply o ts)
    → InputFits inputs o × AllInputsFit inputs ts
unfolding InputsFit
InputsFit-parts inputs o ts h = h

-- the operands of a node whose inputs fit
record HasOperands (table : Table) (inputs : List Value) (e : Entry) : Type 0 where
  pub sorts : List Sort
  pub of_args : sorts_of table.pointer (operands (terms_of table) e.args) ≡ Some sorts
  pub allowed : refusal table.pointer e.op sorts ≡ None
  pub fit : AllInputsFit inputs (operands (terms_of table) e.args)

node-operands : (table : Table) → IsTable table → (inputs : List Value) (at : TermId) (e : Entry)
    → slice_get table.nodes at.0 ≡ Some e
    → InputsFit inputs (term_at table at) → HasOperands table inputs e
node-operands table is_table inputs at e h fit =
    let term = term_at-node table is_table at e h in
    let node = node-sorted table is_table at.0 (slice_get_within table.nodes at.0 e h) in
    let sorted = IsSorted-of table.pointer e.op (operands (terms_of table) e.args) node.0
    (ap (sort_of table.pointer) (sym term) ∙ node.1) in
    record {
      sorts = sorted.sorts;
      of_args = sorted.of_args;
      allowed = sorted.fits;
      fit = (InputsFit-parts inputs e.op (operands (terms_of table) e.args) (subst (InputsFit inputs) term fit)).1;
    }

value-apply : (inputs : List Value) (o : Op) (ts : Operands)
    → value inputs (Apply o ts) ≡ op_value inputs o (values inputs ts)
unfolding value
value-apply inputs o ts = refl

-- what the step answers for a node is the value of its term, where the places of its arguments have theirs
pub step-value : (table : Table) → IsTable table → (inputs room : List Value) (at : TermId) (e : Entry)
    → slice_get table.nodes at.0 ≡ Some e
    → All (IsValued table inputs room) e.args → (r : Value)
    → IsValueOf inputs e.op (values_in room e.args) r
    → InputsFit inputs (term_at table at) → r ≡ value inputs (term_at table at)
step-value table is_table inputs room at e h valued r says fit =
    let ts = operands (terms_of table) e.args in
    let node = node-operands table is_table inputs at e h fit in
    let same = values-valued table inputs room e.args (recursion_from_All (IsValued table inputs room) e.args valued) in
    let have = subst (HaveSorts node.sorts) (sym same)
    (values-sorted table.pointer inputs ts node.sorts node.of_args node.fit) in
    says table.pointer node.sorts node.allowed (sorts_of-sized table.pointer ts node.sorts node.of_args) have
    ∙ ap (op_value inputs e.op) same ∙ sym (value-apply inputs e.op ts)
    ∙ ap (value inputs) (sym (term_at-node table is_table at e h))

args-filled : (table : Table) (inputs room : List Value) (n : ℕ) → IsFilled table inputs room n → (args : List TermId)
    → AllByRecursion (λ (a : TermId). a.0 < n) args
    → AllInputsFit inputs (operands (terms_of table) args) → AllByRecursion (IsValued table inputs room) args
unfolding InputsFit
args-filled table inputs room n filled [] below fit = tt
args-filled table inputs room n filled (a ∷ args) below fit =
    (filled a.0 below.0 fit.0, args-filled table inputs room n filled args below.1 fit.1)

-- where the places below a node are filled, those of its arguments have their values
pub args-valued : (table : Table) → IsTable table → (inputs room : List Value) (at : TermId) (e : Entry)
    → slice_get table.nodes at.0 ≡ Some e
    → IsFilled table inputs room at.0 → InputsFit inputs (term_at table at) → All (IsValued table inputs room) e.args
args-valued table is_table inputs room at e h filled fit =
    All-from_recursion (IsValued table inputs room) e.args
    (args-filled table inputs room at.0 filled e.args
    (recursion_from_All (λ (a : TermId). a.0 < at.0) e.args (is_table.earlier at.0 e h))
    (node-operands table is_table inputs at e h fit).fit)

pub IsFilled-more : (table : Table) (inputs room : List Value) (n : ℕ) (r : Value) → n < length room
    → IsFilled table inputs room n
    → (InputsFit inputs (term_in (terms_of table) n) → r ≡ value inputs (term_in (terms_of table) n))
    → IsFilled table inputs (slice_set room n r) (n + 1)
IsFilled-more table inputs room n r within filled here = λ k lt fit. ⊎_elim
    (λ below. slice_get-set_other room n k r (λ same. absurd (omega arith)) ∙ filled k below fit)
    (λ same. let at : k ≡ n = omega arith in
    ap (slice_get (slice_set room n r)) at ∙ slice_get-set_same room n r within
    ∙ ap Some (here (subst (λ j. InputsFit inputs (term_in (terms_of table) j)) at fit))
    ∙ ap (λ j. Some (value inputs (term_in (terms_of table) j))) (sym at))
    (cases_lt k n)

-- ---- which terms have inputs that fit

pub InputsFit-apply : (inputs : List Value) (o : Op) (ts : Operands) → InputFits inputs o → AllInputsFit inputs ts
    → InputsFit inputs (Apply o ts)
unfolding InputsFit
InputsFit-apply inputs o ts h all = (h, all)

AllInputsFit-operands : (inputs : List Value) (ts : List Term) (n : ℕ)
    → ((k : ℕ) → k < n → InputsFit inputs (term_in ts k)) → (args : List TermId)
    → AllByRecursion (λ (a : TermId). a.0 < n) args
    → AllInputsFit inputs (operands ts args)
unfolding InputsFit
AllInputsFit-operands inputs ts n fit [] below = tt
AllInputsFit-operands inputs ts n fit (a ∷ args) below =
    (fit a.0 below.0, AllInputsFit-operands inputs ts n fit args below.1)

-- a node's inputs fit where its own does and those of all earlier nodes do
pub InputsFit-node : (table : Table) → IsTable table → (inputs : List Value) (k : ℕ) (e : Entry)
    → slice_get table.nodes k ≡ Some e → InputFits inputs e.op
    → ((j : ℕ) → j < k → InputsFit inputs (term_in (terms_of table) j)) → InputsFit inputs (term_in (terms_of table) k)
InputsFit-node table is_table inputs k e h own earlier =
    let below = recursion_from_All (λ (a : TermId). a.0 < k) e.args (is_table.earlier k e h) in
    subst (InputsFit inputs) (sym (term_at-node table is_table (record { 0 = k }) e h))
    (InputsFit-apply inputs e.op (operands (terms_of table) e.args) own
    (AllInputsFit-operands inputs (terms_of table) k earlier e.args below))

-- ---- along a list of nodes

-- the places of these nodes have their values, and all others are as in an older room
pub record IsAlong (table : Table) (inputs old room : List Value) (nodes : List TermId) : Type 0 where
  pub valued : All (IsValued table inputs room) nodes
  pub others : (at : TermId) → ¬ (Contains nodes at) → slice_get room at.0 ≡ slice_get old at.0

pub IsAlong-none : (table : Table) (inputs room : List Value) → IsAlong table inputs room room []
IsAlong-none table inputs room = record { valued = λ k d h. absurd (omega (arith, h)); others = λ at new. refl }

-- one more place is set
pub IsAlong-more : (table : Table) (inputs old room : List Value) (nodes : List TermId) (at : TermId) (r : Value)
    → at.0 < length room
    → IsAlong table inputs old room nodes → r ≡ value inputs (term_at table at)
    → IsAlong table inputs old (slice_set room at.0 r) (nodes ++ at ∷ [])
IsAlong-more table inputs old room nodes at r within along is =
    let set = slice_set room at.0 r in
    let here : IsValued table inputs set at = slice_get-set_same room at.0 r within ∙ ap Some is in
    record {
      valued = All-push (IsValued table inputs set) nodes at
          (All-weaker (IsValued table inputs room) (IsValued table inputs set) (λ b valued. ⊎_elim
          (λ same. subst (λ k. slice_get set k ≡ Some (value inputs (term_in (terms_of table) k))) (sym same) here)
          (λ apart. slice_get-set_other room at.0 b.0 r apart ∙ valued) (same_or_apart b.0 at.0)) nodes along.valued)
          here;
      others = λ b new. slice_get-set_other room at.0 b.0 r
          (λ same. new (subst (Contains (nodes ++ at ∷ []))
          (ap (λ (m : ℕ). let id : TermId = record { 0 = m } in id) (sym same)) (Contains-push nodes at)))
          ∙ along.others b (λ c. new (Contains-append_left nodes (at ∷ []) b c));
    }
  where
    same_or_apart : (j k : ℕ) → (j ≡ k) ⊎ (j ≢ k)
    same_or_apart j k = ⊎_elim (λ less. inr (λ same. omega (arith, less, same)))
        (λ more. ⊎_elim (λ less. inr (λ same. omega (arith, less, same))) (λ back. inl (omega (arith, more, back)))
        (cases_lt k j)) (cases_lt j k)
