-- A file whose table of terms grows: its definitions are the same, and as sound.
use Rattle.std.proofs.Common.{◌≡◌, ◌∙◌, ℕ, ◌<◌, List, [], ◌∷◌, length, map, Bool, true, ◌&&◌, ◌==◌, refl, ap, arith}
use Rattle.std.specs.Prelude.{nat_le, nat_lt}
use Rattle.std.specs.List.{list_all}
use Rattle.std.proofs.lemmas.Bool.{and_parts, ltb-true}
use Rattle.list_lemmas.proofs.Bools.{and-both, lt-true}
use Rattle.bv_terms.specs.declared.op.TermId.{TermId}
use Rattle.bv_terms.specs.declared.value.Sort.{Sort}
use Rattle.bv_terms.specs.Term.{Term}
use Rattle.bv_terms.specs.Table.{Table, term_at, Extends}
use Rattle.term_text.proofs.BuildLemmas.{Extends-longer, term_at-kept}
use Rattle.isel_spec.specs.declared.definitions.OpDef.{OpDef}
use Rattle.isel_spec.specs.declared.definitions.GoalDef.{GoalDef}
use Rattle.isel_spec.specs.declared.spec.Spec.{Spec}
use Rattle.isel_spec.specs.File as file
use Rattle.isel_spec.specs.File.{File, operation, goal, scope, stays_in, are_sound, is_between, is_sound_op}
use Rattle.isel_spec.specs.File.{is_sound_goal, results_in, has_sound_results, has_kind, is_sized, sorts_in}
use Rattle.isel_spec.specs.File.{all_names, is_short_name, differ, is_sound}
use Rattle.isel_spec.specs.Memory.{subterm_count, has_memory_shape, has_plain_pointers, accessed_bytes}
use Rattle.isel_spec.specs.Spec as spec

-- ---- results

results-kept : (old new : Table) → Extends old new → (ss : List Sort) (ats : List TermId)
    → are_sound old ss ats ≡ true
    → (are_sound new ss ats ≡ true) × (results_in new ats ≡ results_in old ats)
results-kept old new grown ss [] h = (refl, refl)
results-kept old new grown ss (at ∷ ats) h =
    let parts = and_parts (nat_lt at.0 (length old.nodes) && stays_in ss (term_at old at)) (are_sound old ss ats) h in
    let first = and_parts (nat_lt at.0 (length old.nodes)) (stays_in ss (term_at old at)) parts.0 in
    let below : at.0 < length old.nodes = ltb-true at.0 (length old.nodes) first.0 in
    let same : term_at new at ≡ term_at old at = term_at-kept old new grown at below in
    let there : nat_lt at.0 (length new.nodes) ≡ true =
    lt-true at.0 (length new.nodes) (omega (arith, below, Extends-longer old new grown)) in
    let stays : stays_in ss (term_at new at) ≡ true = ap (stays_in ss) same ∙ first.1 in
    let rest = results-kept old new grown ss ats parts.1 in
    let sound = and-both (nat_lt at.0 (length new.nodes)) (stays_in ss (term_at new at)) there stays in (
      and-both (nat_lt at.0 (length new.nodes) && stays_in ss (term_at new at)) (are_sound new ss ats) sound rest.0,
      λ i. same i ∷ rest.1 i,
    )

-- ---- definitions

op-kept : (old new : Table) → Extends old new → (e : List ℕ × OpDef) → is_sound_op old e ≡ true
    → (is_sound_op new e ≡ true) × (operation new e ≡ operation old e)
op-kept old new grown e h =
    let rs = e.1.results in
    let limits : Bool = nat_le (length e.1.args) 4 && nat_le (length e.1.attrs) 2 && is_between 1 3 (length rs)
    && list_all is_sized e.1.args && list_all (is_between 1 64) e.1.attrs in
    let shape : List Term → Bool = λ ts. nat_le (subterm_count ts) 256 && has_memory_shape e.1.args ts in
    let last = and_parts (limits && are_sound old (scope e.1) rs) (has_sound_results old e.1.args rs) h in
    let parts = and_parts limits (are_sound old (scope e.1) rs) last.0 in
    let kept = results-kept old new grown (scope e.1) rs parts.1 in
    let shaped : has_sound_results new e.1.args rs ≡ true = ap shape kept.1 ∙ last.1 in
    let with_results : List Term → file.Operation = λ ts.
    record { name = e.0; args = e.1.args; attrs = e.1.attrs; results = ts } in (
      and-both (limits && are_sound new (scope e.1) rs) (has_sound_results new e.1.args rs)
          (and-both limits (are_sound new (scope e.1) rs) parts.0 kept.0) shaped,
      ap with_results kept.1,
    )

-- the parts of the test of a goal, from the last to the first
record HasGoalParts (a b c d e : Bool) : Type 0 where
  limits : a ≡ true
  sound : b ≡ true
  shape : c ≡ true
  pointers : d ≡ true
  bytes : e ≡ true

goal_parts : (a b c d e : Bool) → (a && b && c && d && e) ≡ true → HasGoalParts a b c d e
goal_parts a b c d e h =
    let p = and_parts (a && b && c && d) e h in
    let q = and_parts (a && b && c) d p.0 in
    let r = and_parts (a && b) c q.0 in
    let l = and_parts a b r.0 in
    record { limits = l.0; sound = l.1; shape = r.1; pointers = q.1; bytes = p.1 }

goal_whole : (a b c d e : Bool) → a ≡ true → b ≡ true → c ≡ true → d ≡ true → e ≡ true
    → (a && b && c && d && e) ≡ true
goal_whole a b c d e h k l m n =
    and-both (a && b && c && d) e
    (and-both (a && b && c) d (and-both (a && b) c (and-both a b h k) l) m) n

goal-kept : (old new : Table) → Extends old new → (e : List ℕ × GoalDef) → is_sound_goal old e ≡ true
    → (is_sound_goal new e ≡ true) × (goal new e ≡ goal old e)
goal-kept old new grown e h =
    let sorts : List Sort = sorts_in e.1.args in
    let rs = e.1.results in
    let limits : Bool = nat_le (length e.1.args) 4 && is_between 1 3 (length rs) && list_all has_kind e.1.args
    && list_all is_sized sorts && nat_le e.1.cost 65535 in
    let shape : List Term → Bool = λ ts. nat_le (subterm_count ts) 256 && has_memory_shape sorts ts in
    let parts = goal_parts limits (are_sound old sorts rs) (has_sound_results old sorts rs)
    (has_plain_pointers (results_in old rs)) (nat_le (accessed_bytes (results_in old rs)) 32) h in
    let kept = results-kept old new grown sorts rs parts.sound in
    let with_results : List Term → file.Goal = λ ts.
    record { name = e.0; kinds = map (λ a. a.0) e.1.args; args = sorts; cost = e.1.cost; results = ts } in (
      goal_whole limits (are_sound new sorts rs) (has_sound_results new sorts rs)
          (has_plain_pointers (results_in new rs)) (nat_le (accessed_bytes (results_in new rs)) 32)
          parts.limits kept.0 (ap shape kept.1 ∙ parts.shape) (ap has_plain_pointers kept.1 ∙ parts.pointers)
          (ap (λ ts. nat_le (accessed_bytes ts) 32) kept.1 ∙ parts.bytes),
      ap with_results kept.1,
    )

ops-kept : (old new : Table) → Extends old new → (es : List (List ℕ × OpDef)) → list_all (is_sound_op old) es ≡ true
    → (list_all (is_sound_op new) es ≡ true) × (map (operation new) es ≡ map (operation old) es)
ops-kept old new grown [] h = (refl, refl)
ops-kept old new grown (e ∷ es) h =
    let parts = and_parts (is_sound_op old e) (list_all (is_sound_op old) es) h in
    let first = op-kept old new grown e parts.0 in
    let rest = ops-kept old new grown es parts.1 in
    (and-both (is_sound_op new e) (list_all (is_sound_op new) es) first.0 rest.0, λ i. first.1 i ∷ rest.1 i)

goals-kept : (old new : Table) → Extends old new → (es : List (List ℕ × GoalDef))
    → list_all (is_sound_goal old) es ≡ true
    → (list_all (is_sound_goal new) es ≡ true) × (map (goal new) es ≡ map (goal old) es)
goals-kept old new grown [] h = (refl, refl)
goals-kept old new grown (e ∷ es) h =
    let parts = and_parts (is_sound_goal old e) (list_all (is_sound_goal old) es) h in
    let first = goal-kept old new grown e parts.0 in
    let rest = goals-kept old new grown es parts.1 in
    (and-both (is_sound_goal new e) (list_all (is_sound_goal new) es) first.0 rest.0, λ i. first.1 i ∷ rest.1 i)

-- ---- files

-- what the test of a file says of its definitions, beside the rest
record HasDefinitions (rest ops goals : Bool) : Type 0 where
  others : rest ≡ true
  sound_ops : ops ≡ true
  sound_goals : goals ≡ true

definitions : (rest ops goals : Bool) → (rest && ops && goals) ≡ true → HasDefinitions rest ops goals
definitions rest ops goals h =
    let last = and_parts (rest && ops) goals h in
    let first = and_parts rest ops last.0 in
    record { others = first.0; sound_ops = first.1; sound_goals = last.1 }

-- the part of the test that is not about the definitions' terms
abbrev has_limits : ℕ → ℕ → List (List ℕ × OpDef) → List (List ℕ × GoalDef) → Bool
has_limits pointer p ops goals =
    (pointer == p) && nat_le (length ops) 64 && nat_le (length goals) 256
    && list_all is_short_name (all_names ops goals) && differ (all_names ops goals)

of-file : (pointer : ℕ) (table : Table) (ops : List (List ℕ × OpDef)) (goals : List (List ℕ × GoalDef))
    → is_sound pointer table ops goals ≡ true
    → HasDefinitions (has_limits pointer table.pointer ops goals) (list_all (is_sound_op table) ops)
    (list_all (is_sound_goal table) goals)
of-file pointer table ops goals h =
    definitions (has_limits pointer table.pointer ops goals) (list_all (is_sound_op table) ops)
    (list_all (is_sound_goal table) goals) h

pub grown-sound : (pointer : ℕ) (old new : Table) (ops : List (List ℕ × OpDef)) (goals : List (List ℕ × GoalDef))
    → Extends old new → is_sound pointer old ops goals ≡ true → is_sound pointer new ops goals ≡ true
grown-sound pointer old new ops goals grown h =
    let parts = of-file pointer old ops goals h in
    let limits = has_limits pointer new.pointer ops goals in
    and-both (limits && list_all (is_sound_op new) ops) (list_all (is_sound_goal new) goals)
    (and-both limits (list_all (is_sound_op new) ops)
    (ap (λ p. has_limits pointer p ops goals) grown.pointer ∙ parts.others)
    (ops-kept old new grown ops parts.sound_ops).0) (goals-kept old new grown goals parts.sound_goals).0

-- a file of definitions in a table
abbrev pub file_in : ℕ → Table → List (List ℕ × OpDef) → List (List ℕ × GoalDef) → File
file_in pointer table ops goals =
    record { pointer = pointer; ops = map (operation table) ops; goals = map (goal table) goals }

pub grown-file : (s : Spec) (new : Table) → Extends s.terms new
    → file_in s.pointer new s.ops s.goals ≡ spec.file s
grown-file s new grown =
    let parts = of-file s.pointer s.terms s.ops s.goals s.sound in
    let ops_are = (ops-kept s.terms new grown s.ops parts.sound_ops).1 in
    let goals_are = (goals-kept s.terms new grown s.goals parts.sound_goals).1 in
    λ i. record { pointer = s.pointer; ops = ops_are i; goals = goals_are i }
