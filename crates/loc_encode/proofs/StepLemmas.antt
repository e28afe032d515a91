-- Tests that are built in loops, over tables that grow.
use Rattle.std.proofs.Common.{◌≡◌, ℕ, suc, ◌+◌, ◌<◌, Bool, ◌&&◌, ◌||◌, List, length, take, get_or}
use Rattle.std.proofs.Common.{sym}
use Rattle.std.proofs.Common.{subst, arith}
use Rattle.std.proofs.lemmas.List.Folds.{list_all_more, list_any_more}
use Rattle.std.specs.List.{list_all, list_any}
use Rattle.bv_terms.specs.declared.op.TermId.{TermId}
use Rattle.bv_terms.specs.Table.{Table, term_at, Extends}
use Rattle.bv_terms.proofs.GraftLemmas.{Extends-further}
use Rattle.pattern_core.specs.Claim.{Claim}
use Rattle.loc_encode.specs.declared.slots.Slot.{Slot}
use Rattle.loc_encode.specs.Truths.{conjunction, disjunction, Denotes}
use Rattle.loc_encode.specs.Tests.{Test, IsTest}
use Rattle.loc_encode.specs.Layout.{all_below, any_below}
use Rattle.loc_encode.proofs.TestLemmas.{IsTest-kept, IsTest-and, IsTest-or, IsTest-same}

-- a node for a test, in a table that extends the first
pub record IsBuilding (c : Claim) (first now : Table) (at : TermId) (f : Test) : Type 0 where
  pub extends : Extends first now
  pub test : IsTest c now at f

pub building-first : (c : Claim) (first now : Table) (at : TermId) (f : Test) → Extends first now → IsTest c now at f
    → IsBuilding c first now at f
building-first c first now at f more test = record { extends = more; test = test }

-- one more conjunct, and one more disjunct
pub building-and : (c : Claim) (first old mid new : Table) (acc x id : TermId) (f g : Test)
    → IsBuilding c first old acc f → Extends old mid → IsTest c mid x g → Extends mid new
    → Denotes new id (conjunction (term_at mid acc) (term_at mid x)) → IsBuilding c first new id (λ y. f y && g y)
building-and c first old mid new acc x id f g so more test again made = record {
  extends = Extends-further first mid new (Extends-further first old mid so.extends more) again;
  test = IsTest-and c mid new id acc x f g (IsTest-kept c old mid acc f more so.test) test again made;
}

pub building-or : (c : Claim) (first old mid new : Table) (acc x id : TermId) (f g : Test)
    → IsBuilding c first old acc f → Extends old mid → IsTest c mid x g → Extends mid new
    → Denotes new id (disjunction (term_at mid acc) (term_at mid x)) → IsBuilding c first new id (λ y. f y || g y)
building-or c first old mid new acc x id f g so more test again made = record {
  extends = Extends-further first mid new (Extends-further first old mid so.extends more) again;
  test = IsTest-or c mid new id acc x f g (IsTest-kept c old mid acc f more so.test) test again made;
}

pub building-same : (c : Claim) (first now : Table) (at : TermId) (f g : Test) → ((x : Slot → Bool) → f x ≡ g x)
    → IsBuilding c first now at f → IsBuilding c first now at g
building-same c first now at f g same so =
    record { extends = so.extends; test = IsTest-same c now at f g same so.test }

pub building-kept : (c : Claim) (first old new : Table) (at : TermId) (f : Test) → IsBuilding c first old at f
    → Extends old new → IsBuilding c first new at f
building-kept c first old new at f so more = record {
  extends = Extends-further first old new so.extends more;
  test = IsTest-kept c old new at f more so.test;
}

after : (i : ℕ) → suc i ≡ i + 1
after i = omega arith

pub building-all : (c : Claim) (first old mid new : Table) (acc x id : TermId) (p : (Slot → Bool) → ℕ → Bool) (i : ℕ)
    → IsBuilding c first old acc (λ g. all_below (p g) i) → Extends old mid → IsTest c mid x (λ g. p g i)
    → Extends mid new → Denotes new id (conjunction (term_at mid acc) (term_at mid x))
    → IsBuilding c first new id (λ g. all_below (p g) (i + 1))
building-all c first old mid new acc x id p i so more test again made =
    subst (λ n. IsBuilding c first new id (λ g. all_below (p g) n)) (after i)
    (building-and c first old mid new acc x id (λ g. all_below (p g) i) (λ g. p g i) so more test again made)

pub building-any : (c : Claim) (first old mid new : Table) (acc x id : TermId) (p : (Slot → Bool) → ℕ → Bool) (i : ℕ)
    → IsBuilding c first old acc (λ g. any_below (p g) i) → Extends old mid → IsTest c mid x (λ g. p g i)
    → Extends mid new → Denotes new id (disjunction (term_at mid acc) (term_at mid x))
    → IsBuilding c first new id (λ g. any_below (p g) (i + 1))
building-any c first old mid new acc x id p i so more test again made =
    subst (λ n. IsBuilding c first new id (λ g. any_below (p g) n)) (after i)
    (building-or c first old mid new acc x id (λ g. any_below (p g) i) (λ g. p g i) so more test again made)

pub building-list_all : {A : Type 0} (c : Claim) (first old mid new : Table) (acc x id : TermId)
    (p : (Slot → Bool) → A → Bool) (xs : List A) (i : ℕ) (d : A) → i < length xs
    → IsBuilding c first old acc (λ g. list_all (p g) (take i xs)) → Extends old mid
    → IsTest c mid x (λ g. p g (get_or xs i d)) → Extends mid new
    → Denotes new id (conjunction (term_at mid acc) (term_at mid x))
    → IsBuilding c first new id (λ g. list_all (p g) (take (i + 1) xs))
building-list_all c first old mid new acc x id p xs i d l so more test again made =
    building-same c first new id (λ g. list_all (p g) (take i xs) && p g (get_or xs i d))
    (λ g. list_all (p g) (take (i + 1) xs)) (λ g. sym (list_all_more (p g) xs i d l))
    (building-and c first old mid new acc x id (λ g. list_all (p g) (take i xs)) (λ g. p g (get_or xs i d)) so more test
    again made)

-- a step that says what it adds
pub building-list_any_told : {A : Type 0} (c : Claim) (first old new : Table) (acc id : TermId)
    (p : (Slot → Bool) → A → Bool) (xs : List A) (i : ℕ) (d : A) → i < length xs
    → IsBuilding c first old acc (λ g. list_any (p g) (take i xs)) → Extends old new
    → IsTest c new id (λ g. list_any (p g) (take i xs) || p g (get_or xs i d))
    → IsBuilding c first new id (λ g. list_any (p g) (take (i + 1) xs))
building-list_any_told c first old new acc id p xs i d l so more test = record {
  extends = Extends-further first old new so.extends more;
  test = IsTest-same c new id (λ g. list_any (p g) (take i xs) || p g (get_or xs i d))
      (λ g. list_any (p g) (take (i + 1) xs)) (λ g. sym (list_any_more (p g) xs i d l)) test;
}
