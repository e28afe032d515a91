-- The rules on memory for the results of a definition. Source: this project's own.
use Rattle.std.specs.Prelude.{ℕ, List, [], ◌∷◌, ◌++◌, filter, length, Option, Some, None, Bool, true, false}
use Rattle.std.specs.Prelude.{not, ◌&&◌, ◌||◌, ◌==◌, nat_le, if◌then◌else◌}
use Rattle.std.specs.List.{flat_map, list_all, list_any, sum_by}
use Rattle.bv_terms.specs.contracts.op.OpPartialEq.TheImpl as operation
use Rattle.bv_terms.specs.declared.op.Op.{Op}
use Rattle.bv_terms.specs.declared.op.Op.TheVariants as op
use Rattle.bv_terms.specs.declared.value.Sort.{Sort}
use Rattle.bv_terms.specs.declared.value.Sort.TheVariants as sort
use Rattle.bv_terms.specs.Term.{Term, Operands, Apply, End, Then}
use Rattle.bv_terms.specs.Sorts.{same_sort}

-- ---- terms in results

-- two operations are equal
abbrev pub same_op : Op → Op → Bool
same_op = operation.eq-value.it

unfoldable mutual
  pub same_term : Term → Term → Bool
  same_term (Apply o ts) (Apply q us) = same_op o q && same_operands ts us

  pub same_operands : Operands → Operands → Bool
  same_operands End End = true
  same_operands (Then t ts) (Then u us) = same_term t u && same_operands ts us
  same_operands _ _ = false

-- a term and the terms that stand in it, each as often as it stands there
unfoldable mutual
  pub subterms : Term → List Term
  subterms (Apply o ts) = Apply o ts ∷ subterms_among ts

  pub subterms_among : Operands → List Term
  subterms_among End = []
  subterms_among (Then t ts) = subterms t ++ subterms_among ts

abbrev pub subterms_of : List Term → List Term
subterms_of results = flat_map subterms results

-- each of these once, by a test of equality
abbrev pub each_once : {A : Type 0} → (A → A → Bool) → List A → List A
each_once same [] = []
each_once same (x ∷ xs) = if list_any (same x) xs then each_once same xs else x ∷ each_once same xs

-- how many different terms stand in the results
abbrev pub subterm_count : List Term → ℕ
subterm_count results = length (each_once same_term (subterms_of results))

-- ---- the chain of memories

-- the term is a memory
abbrev pub gives_memory : Op → Bool
gives_memory (op.Input k s) = same_sort s sort.Mem
gives_memory (op.MMark n) = true
gives_memory (op.MStore n) = true
gives_memory _ = false

abbrev pub is_memory : Term → Bool
is_memory (Apply o ts) = gives_memory o

-- a memory, the memory that it is made from, and so on down to an input
unfoldable pub chain : Term → List Term
chain (Apply o End) = Apply o End ∷ []
chain (Apply o (Then m ts)) = Apply o (Then m ts) ∷ chain m

-- the chains of the results that are memories
abbrev pub chains : List Term → List Term
chains results = flat_map chain (filter is_memory results)

-- no memory among the arguments and none among the results, or one of each
abbrev pub has_one_memory : List Sort → List Term → Bool
has_one_memory args results =
    let taken = length (filter (same_sort sort.Mem) args) in
    (taken == length (filter is_memory results)) && nat_le taken 1

-- each memory in the results stands on the chain
abbrev pub is_on : List Term → Term → Bool
is_on memories t = not (is_memory t) || list_any (same_term t) memories

-- a mark of n bytes at the pointer
abbrev pub marks : ℕ → Term → Term → Bool
marks n pointer (Apply (op.MMark k) (Then m (Then p End))) = (k == n) && same_term p pointer
marks n pointer _ = false

-- a load has on the chain a mark of as many bytes at the same pointer
abbrev pub is_marked : List Term → Term → Bool
is_marked memories (Apply (op.MLoad n) (Then m (Then pointer End))) = list_any (marks n pointer) memories
is_marked memories _ = true

-- the memory of a definition is one chain, on which each load is marked
abbrev pub has_memory_shape : List Sort → List Term → Bool
has_memory_shape args results =
    has_one_memory args results && list_all (is_on (chains results)) (subterms_of results)
    && list_all (is_marked (chains results)) (subterms_of results)

-- ---- pointers and accessed bytes

-- the number of bytes of an access and its pointer
abbrev pub access_in : Term → Option (ℕ × Term)
access_in (Apply (op.MLoad n) (Then m (Then p End))) = Some (n, p)
access_in (Apply (op.MMark n) (Then m (Then p End))) = Some (n, p)
access_in (Apply (op.MStore n) (Then m (Then p (Then v End)))) = Some (n, p)
access_in _ = None

abbrev pub some_of : {A : Type 0} → Option A → List A
some_of (Some a) = a ∷ []
some_of None = []

abbrev pub accesses : List Term → List (ℕ × Term)
accesses results = flat_map (λ t. some_of (access_in t)) (subterms_of results)

abbrev pub is_load : Term → Bool
is_load (Apply (op.MLoad n) ts) = true
is_load _ = false

-- no pointer depends on what is loaded
abbrev pub has_plain_pointers : List Term → Bool
has_plain_pointers results = list_all (λ (a : ℕ × Term). not (list_any is_load (subterms a.1))) (accesses results)

abbrev pub same_access : ℕ × Term → ℕ × Term → Bool
same_access a b = (a.0 == b.0) && same_term a.1 b.1

-- the bytes of the different accesses, together
abbrev pub accessed_bytes : List Term → ℕ
accessed_bytes results = sum_by (λ (a : ℕ × Term). a.0) (each_once same_access (accesses results))
