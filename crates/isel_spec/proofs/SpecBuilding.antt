-- Files that differ in one table at most: where the tables are equal, so are the files.
use Rattle.std.proofs.Common.{◌≡◌, ℕ, true, List, IsTrue, ap, subst, Result, Ok, Err, OnErr}
use Rattle.std.proofs.Math.Bool.{Bool-set}
use Rattle.bv_terms.specs.Table.{Table}
use Rattle.isel_spec.specs.declared.definitions.OpDef.{OpDef}
use Rattle.isel_spec.specs.declared.definitions.GoalDef.{GoalDef}
use Rattle.isel_spec.specs.declared.spec.Spec.{Spec}
use Rattle.isel_spec.specs.File.{is_sound}

abbrev pub spec_of : (p : ℕ) (table : Table) (os : List (List ℕ × OpDef)) (gs : List (List ℕ × GoalDef))
    → IsTrue (is_sound p table os gs) → Spec
spec_of p table os gs h = record { pointer = p; terms = table; ops = os; goals = gs; sound = h }

pub same_ops : (p : ℕ) (table : Table) (gs : List (List ℕ × GoalDef)) (os ns : List (List ℕ × OpDef))
    (h : IsTrue (is_sound p table os gs)) (k : IsTrue (is_sound p table ns gs)) → os ≡ ns
    → spec_of p table os gs h ≡ spec_of p table ns gs k
same_ops p table gs os ns h k e =
    subst (λ xs. (j : IsTrue (is_sound p table xs gs)) → spec_of p table os gs h ≡ spec_of p table xs gs j) e
    (λ j. ap (spec_of p table os gs) (Bool-set (is_sound p table os gs) true h j)) k

pub same_goals : (p : ℕ) (table : Table) (os : List (List ℕ × OpDef)) (gs ns : List (List ℕ × GoalDef))
    (h : IsTrue (is_sound p table os gs)) (k : IsTrue (is_sound p table os ns)) → gs ≡ ns
    → spec_of p table os gs h ≡ spec_of p table os ns k
same_goals p table os gs ns h k e =
    subst (λ xs. (j : IsTrue (is_sound p table os xs)) → spec_of p table os gs h ≡ spec_of p table os xs j) e
    (λ j. ap (spec_of p table os gs) (Bool-set (is_sound p table os gs) true h j)) k

pub on_err_always : {T E P : Type 0} (r : Result T E) → P → OnErr r P
on_err_always (Ok x) p = tt
on_err_always (Err e) p = p
