-- Accesses of nodes, their pointers and their bytes.
use Rattle.std.proofs.Common.{◌≡◌, ℕ, ◌<◌, ◌≤◌, Bool, true, false, List, [], ◌∷◌, ◌++◌, length, get_or, map, not}
use Rattle.std.proofs.Common.{Option, None, Some, option_map, refl, sym, ap, ◌∙◌, arith, append_assoc}
use Rattle.std.specs.Prelude.{◌&&◌, ◌||◌}
use Rattle.std.specs.List.{flat_map, list_all, list_any, sum_by}
use Rattle.std.proofs.lemmas.List.Folds.{list_any-append}
use Rattle.bv_terms.specs.declared.op.Op.TheVariants as op
use Rattle.bv_terms.specs.declared.op.TermId.{TermId}
use Rattle.bv_terms.specs.Term.{Term, Apply}
use Rattle.bv_terms.specs.Table.{Table, IsTable, term_at, terms_of, operands}
use Rattle.bv_terms.specs.Subterm.{AreSubterms}
use Rattle.isel_spec.specs.Memory.{access_in, some_of, accesses, is_load, subterms, subterms_of, has_plain_pointers}
use Rattle.isel_spec.specs.Memory.{each_once, same_access, accessed_bytes}
use Rattle.term_text.specs.Build.{AreNodes, terms_at}
use Rattle.spec_reader.specs.declared.accesses.Access.{Access}
use Rattle.spec_reader.specs.Accesses.{access_by, accesses_by}
use Rattle.spec_reader.proofs.OnceLemmas.{SameMembers, all-same, any-same, same-flat_map, once-sum}
use Rattle.spec_reader.proofs.SubtermNodes.{subterm-members}
use Rattle.spec_reader.proofs.TermTests.{same_access-tells}

-- ---- the access of an operation

abbrev pub made : ℕ → TermId → Access
made n p = record { bytes = n; pointer = p }

pub store-three : (table : Table) (n : ℕ) (args : List TermId) (d : TermId) → 3 ≤ length args → length args < 4
    → Some (access_by table (made n (get_or args 1 d)))
    ≡ access_in (Apply (op.MStore n) (operands (terms_of table) args))
store-three table n [] d l m = absurd (omega arith)
store-three table n (a ∷ []) d l m = absurd (omega arith)
store-three table n (a ∷ b ∷ []) d l m = absurd (omega arith)
store-three table n (a ∷ b ∷ c ∷ []) d l m = refl
store-three table n (a ∷ b ∷ c ∷ e ∷ args) d l m = absurd (omega arith)

pub load-others : (table : Table) (n : ℕ) (args : List TermId) → (length args ≡ 2 → ⊥)
    → None ≡ access_in (Apply (op.MLoad n) (operands (terms_of table) args))
load-others table n [] l = refl
load-others table n (a ∷ []) l = refl
load-others table n (a ∷ b ∷ []) l = absurd (l (omega arith))
load-others table n (a ∷ b ∷ c ∷ args) l = refl

pub mark-others : (table : Table) (n : ℕ) (args : List TermId) → (length args ≡ 2 → ⊥)
    → None ≡ access_in (Apply (op.MMark n) (operands (terms_of table) args))
mark-others table n [] l = refl
mark-others table n (a ∷ []) l = refl
mark-others table n (a ∷ b ∷ []) l = absurd (l (omega arith))
mark-others table n (a ∷ b ∷ c ∷ args) l = refl

pub store-others : (table : Table) (n : ℕ) (args : List TermId) → (length args ≡ 3 → ⊥)
    → None ≡ access_in (Apply (op.MStore n) (operands (terms_of table) args))
store-others table n [] l = refl
store-others table n (a ∷ []) l = refl
store-others table n (a ∷ b ∷ []) l = refl
store-others table n (a ∷ b ∷ c ∷ []) l = absurd (l (omega arith))
store-others table n (a ∷ b ∷ c ∷ e ∷ args) l = refl

-- ---- the accesses of nodes

-- one more node: its access, where there is one, stands at the end
pub accesses-push : (table : Table) (found : List Access) (a : Option Access) (t : Term) (ts all : List Term)
    → option_map (access_by table) a ≡ access_in t
    → accesses_by table found ++ flat_map (λ t. some_of (access_in t)) (t ∷ ts)
    ≡ flat_map (λ t. some_of (access_in t)) all
    → accesses_by table (found ++ some_of a) ++ flat_map (λ t. some_of (access_in t)) ts
    ≡ flat_map (λ t. some_of (access_in t)) all
accesses-push table found a t ts all is so_far =
    ap (λ xs. xs ++ flat_map (λ t. some_of (access_in t)) ts) (pushed found a)
    ∙ append_assoc (accesses_by table found) (some_of (option_map (access_by table) a))
    (flat_map (λ t. some_of (access_in t)) ts)
    ∙ ap (λ o. accesses_by table found ++ (some_of o ++ flat_map (λ t. some_of (access_in t)) ts)) is
    ∙ so_far
  where
    pushed : (found : List Access) (a : Option Access)
        → accesses_by table (found ++ some_of a) ≡ accesses_by table found ++ some_of (option_map (access_by table) a)
    pushed [] None = refl
    pushed [] (Some b) = refl
    pushed (b ∷ found) a = ap (λ xs. access_by table b ∷ xs) (pushed found a)

-- the accesses of the nodes are those of the results
pub access-members : (table : Table) → IsTable table → (results nodes : List TermId) → AreNodes table results
    → AreSubterms table results nodes → SameMembers (accesses (terms_at table results))
    (flat_map (λ t. some_of (access_in t)) (terms_at table nodes))
access-members table is results nodes within are =
    same-flat_map (λ (t : Term). some_of (access_in t)) (subterms_of (terms_at table results)) (terms_at table nodes)
    (subterm-members table is results nodes within are)

-- ---- pointers

de_morgan : (a b : Bool) → not (a || b) ≡ (not a && not b)
de_morgan true b = refl
de_morgan false b = refl

-- no load stands in a pointer
no-load : (table : Table) (found : List Access)
    → not (list_any is_load (subterms_of (terms_at table (map (λ (a : Access). a.pointer) found))))
    ≡ list_all (λ (a : ℕ × Term). not (list_any is_load (subterms a.1))) (accesses_by table found)
no-load table [] = refl
no-load table (a ∷ found) =
    let first = subterms (term_at table a.pointer) in
    let others = subterms_of (terms_at table (map (λ (a : Access). a.pointer) found)) in
    ap not (list_any-append is_load first others) ∙ de_morgan (list_any is_load first) (list_any is_load others)
    ∙ ap (λ b. not (list_any is_load first) && b) (no-load table found)

-- a load is among the nodes of the pointers' subterms exactly where a pointer depends on one
pub plain-pointers : (table : Table) → IsTable table → (found : List Access) (pointers nodes : List TermId)
    → pointers ≡ map (λ (a : Access). a.pointer) found → AreNodes table pointers → AreSubterms table pointers nodes
    → not (list_any is_load (terms_at table nodes))
    ≡ list_all (λ (a : ℕ × Term). not (list_any is_load (subterms a.1))) (accesses_by table found)
plain-pointers table is found pointers nodes e within are =
    ap not (sym (any-same is_load (subterms_of (terms_at table pointers)) (terms_at table nodes)
    (subterm-members table is pointers nodes within are)))
    ∙ ap (λ ps. not (list_any is_load (subterms_of (terms_at table ps)))) e
    ∙ no-load table found

-- ---- a goal

-- no pointer of these depends on a load, and the bytes of the different ones, as the rules say it of accesses
abbrev pub are_plain_by : List (ℕ × Term) → Bool
are_plain_by found = list_all (λ (a : ℕ × Term). not (list_any is_load (subterms a.1))) found

abbrev pub bytes_by : List (ℕ × Term) → ℕ
bytes_by found = sum_by (λ (a : ℕ × Term). a.0) (each_once same_access found)

pub goal-plain : (table : Table) → IsTable table → (results nodes : List TermId) → AreNodes table results
    → AreSubterms table results nodes → (found : List Access)
    → accesses_by table found ≡ flat_map (λ t. some_of (access_in t)) (terms_at table nodes)
    → has_plain_pointers (terms_at table results) ≡ are_plain_by (accesses_by table found)
goal-plain table is results nodes within are found e =
    let plain : ℕ × Term → Bool = λ a. not (list_any is_load (subterms a.1)) in
    all-same plain (accesses (terms_at table results)) (flat_map (λ t. some_of (access_in t)) (terms_at table nodes))
    (access-members table is results nodes within are)
    ∙ ap (list_all plain) (sym e)

pub goal-bytes : (table : Table) → IsTable table → (results nodes : List TermId) → AreNodes table results
    → AreSubterms table results nodes → (found : List Access)
    → accesses_by table found ≡ flat_map (λ t. some_of (access_in t)) (terms_at table nodes)
    → accessed_bytes (terms_at table results) ≡ bytes_by (accesses_by table found)
goal-bytes table is results nodes within are found e =
    let size : ℕ × Term → ℕ = λ a. a.0 in
    once-sum same_access same_access-tells size (accesses (terms_at table results))
    (flat_map (λ t. some_of (access_in t)) (terms_at table nodes)) (access-members table is results nodes within are)
    ∙ ap (λ xs. sum_by size (each_once same_access xs)) (sym e)
