-- The first fault of the results together, by what is known of the nodes of their subterms.
use Rattle.std.proofs.Common.{◌≡◌, ℕ, ◌<◌, ◌≤◌, Bool, true, false, cond, List, [], ◌∷◌, map, not, Option, None, Some}
use Rattle.std.proofs.Common.{refl, sym, ap, ◌∙◌}
use Rattle.std.specs.Prelude.{if◌then◌else◌}
use Rattle.std.specs.Option.{option_or}
use Rattle.std.proofs.lemmas.Bool.{false≢true}
use Rattle.list_lemmas.proofs.Bools.{le_true}
use Rattle.list_lemmas.proofs.Numbers.{le_false}
use Rattle.bv_terms.specs.Term.{Term}
use Rattle.sexp_read.specs.Tree.{Tree}
use Rattle.isel_spec.specs.Memory.{subterm_count, has_memory_shape, has_plain_pointers, accessed_bytes}
use Rattle.term_text.specs.Head.{Span}
use Rattle.spec_reader.specs.declared.fault.SpecFault.{SpecFault}
use Rattle.spec_reader.specs.declared.fault.SpecKind.TheVariants as fault
use Rattle.spec_reader.specs.declared.fault.Which.{Which}
use Rattle.spec_reader.specs.declared.fault.Which.TheVariants as which
use Rattle.spec_reader.specs.declared.form.Param as param
use Rattle.spec_reader.specs.Form.{Parts}
use Rattle.spec_reader.specs.Parts.{params_by}
use Rattle.spec_reader.specs.Walk.{above, fault_at, goal_fault, results_fault, sorts_of}

-- ---- a goal

second : {X : Type 0} (a b : Bool) (x y z : X) → a ≡ true → b ≡ false → cond (not a) x (cond (not b) y z) ≡ y
second true false x y z e f = refl
second true true x y z e f = absurd (false≢true (sym f))
second false b x y z e f = absurd (false≢true e)

third : {X : Type 0} (a b : Bool) (x y z : X) → a ≡ true → b ≡ true → cond (not a) x (cond (not b) y z) ≡ z
third true true x y z e f = refl
third true false x y z e f = absurd (false≢true f)
third false b x y z e f = absurd (false≢true e)

pub goal-reads : (parts : Parts) (ts : List Term) (span : Span) → parts.is_goal ≡ true → has_plain_pointers ts ≡ false
    → Some (fault_at fault.PointerReads span) ≡ goal_fault parts ts span
goal-reads parts ts span goal plain =
    sym (second parts.is_goal (has_plain_pointers ts) None (Some (fault_at fault.PointerReads span))
    (above which.Bytes 32 (accessed_bytes ts) span) goal plain)

pub goal-bytes_fault : (parts : Parts) (ts : List Term) (span : Span) (bytes : ℕ) → parts.is_goal ≡ true
    → has_plain_pointers ts ≡ true → bytes ≡ accessed_bytes ts
    → above which.Bytes 32 bytes span ≡ goal_fault parts ts span
goal-bytes_fault parts ts span bytes goal plain e =
    ap (λ n. above which.Bytes 32 n span) e
    ∙ sym (third parts.is_goal (has_plain_pointers ts) None (Some (fault_at fault.PointerReads span))
    (above which.Bytes 32 (accessed_bytes ts) span) goal plain)

-- ---- all results

sorts-by : (tree : ℕ → Tree) (ps : List param.Param)
    → map (λ (p : param.Param). p.sort) ps ≡ sorts_of (params_by tree ps)
sorts-by tree [] = refl
sorts-by tree (p ∷ ps) = ap (λ ss. p.sort ∷ ss) (sorts-by tree ps)

-- what the test of the arguments and results said of the parts of a definition
pub shape-said : (tree : ℕ → Tree) (items ps : List param.Param) (ts : List Term) (b : Bool) → ps ≡ items
    → b ≡ has_memory_shape (map (λ (p : param.Param). p.sort) ps) ts
    → has_memory_shape (sorts_of (params_by tree items)) ts ≡ b
shape-said tree items ps ts b e test =
    ap (λ sorts. has_memory_shape sorts ts) (sym (sorts-by tree items))
    ∙ ap (λ ps. has_memory_shape (map (λ (p : param.Param). p.sort) ps) ts) (sym e) ∙ sym test

above-over : (what : Which) (most n : ℕ) (span : Span) (rest : Option SpecFault) → most < n
    → above what most n span ≡ option_or (above what most n span) rest
above-over what most n span rest h =
    let test = le_false n most h in
    let fault = Some (fault_at (fault.Limit what n) span) in
    ap (λ b. if b then None else fault) test ∙ sym (ap (λ b. option_or (if b then None else fault) rest) test)

above-within : (what : Which) (most n : ℕ) (span : Span) (rest : Option SpecFault) → n ≤ most
    → option_or (above what most n span) rest ≡ rest
above-within what most n span rest h =
    ap (λ b. option_or (if b then None else Some (fault_at (fault.Limit what n) span)) rest) (le_true n most h)

or-none : {X : Type 0} (o : Option X) → option_or o None ≡ o
or-none None = refl
or-none (Some x) = refl

-- what is wrong after the number of different subterms
abbrev after_count : Parts → List Term → Span → Option SpecFault
after_count parts ts span =
    option_or (if has_memory_shape (sorts_of parts.args) ts then None else Some (fault_at fault.MemShape span))
    (option_or (goal_fault parts ts span) None)

pub results-many : (parts : Parts) (ts : List Term) (span : Span) (n : ℕ) → subterm_count ts ≡ n → 256 < n
    → above which.Nodes 256 n span ≡ results_fault parts ts span
results-many parts ts span n e h =
    above-over which.Nodes 256 n span (after_count parts ts span) h
    ∙ ap (λ m. option_or (above which.Nodes 256 m span) (after_count parts ts span)) (sym e)

results-few : (parts : Parts) (ts : List Term) (span : Span) (n : ℕ) → subterm_count ts ≡ n → n ≤ 256
    → results_fault parts ts span ≡ after_count parts ts span
results-few parts ts span n e h =
    ap (λ m. option_or (above which.Nodes 256 m span) (after_count parts ts span)) e
    ∙ above-within which.Nodes 256 n span (after_count parts ts span) h

pub results-shape : (parts : Parts) (ts : List Term) (span : Span) (n : ℕ) → subterm_count ts ≡ n → n ≤ 256
    → has_memory_shape (sorts_of parts.args) ts ≡ false
    → Some (fault_at fault.MemShape span) ≡ results_fault parts ts span
results-shape parts ts span n e h shape =
    sym (results-few parts ts span n e h
    ∙ ap (λ b. option_or (if b then None else Some (fault_at fault.MemShape span))
    (option_or (goal_fault parts ts span) None)) shape)

pub results-goal : (parts : Parts) (ts : List Term) (span : Span) (n : ℕ) → subterm_count ts ≡ n → n ≤ 256
    → has_memory_shape (sorts_of parts.args) ts ≡ true → goal_fault parts ts span ≡ results_fault parts ts span
results-goal parts ts span n e h shape =
    sym (results-few parts ts span n e h
    ∙ ap (λ b. option_or (if b then None else Some (fault_at fault.MemShape span))
    (option_or (goal_fault parts ts span) None)) shape
    ∙ or-none (goal_fault parts ts span))
