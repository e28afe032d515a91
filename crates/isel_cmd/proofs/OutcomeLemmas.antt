-- Bytes have one reason to be refused, and those of an accepted file have none.
use Rattle.std.proofs.Common.{◌≡◌, ℕ, ◌<◌, ◌≤◌, List, length, Result, Err, inl, inr, refl, sym, ap, subst, ◌∙◌}
use Rattle.std.proofs.Common.{arith}
use Rattle.sexp_read.specs.declared.forest.Forest.{Forest}
use Rattle.sexp_read.specs.declared.fault.SexpFault.{SexpFault}
use Rattle.sexp_read.specs.Token.{tokens}
use Rattle.sexp_read.specs.Tree.{Trees, list_of}
use Rattle.sexp_read.specs.Fault.{IsFault}
use Rattle.sexp_read.specs.Forest.{places, items_of}
use Rattle.sexp_read.proofs.FaultLemmas.{fault-unique, trees-unique, reading-faultless}
use Rattle.isel_spec.specs.File.{File}
use Rattle.spec_reader.specs.declared.fault.SpecFault.{SpecFault}
use Rattle.spec_reader.specs.declared.fault.SpecKind.{SpecKind}
use Rattle.spec_reader.specs.Walk.{file_read}
use Rattle.spec_reader.specs.Outcome.{IsOutcome, AreTrees, text_fault}
use Rattle.spec_reader.specs.File.{IsFile}
use Rattle.spec_reader.proofs.FileLemmas.{file-is-read, every-file, no-fault}
use Rattle.multiset_rank.specs.Claims.{claim_count}
use Rattle.isel_cmd.specs.declared.refusal.Reason.{Reason}
use Rattle.isel_cmd.specs.declared.refusal.Reason.TheVariants.{TooLong, Faulty, MemLater, TooMany}
use Rattle.isel_cmd.specs.Refusal.{most_claims, plan_of, line_at, column_at, HasMemory}
use Rattle.isel_cmd.specs.Refusal.{IsFaultAt, IsReason}
use Rattle.isel_cmd.specs.Program.{IsAccepted}

-- bytes that are trees have no fault of their lists
trees_are_faultless : (bytes : List ℕ) (trees : Trees) (f : SexpFault) → AreTrees bytes trees → IsFault bytes f → ⊥
trees_are_faultless bytes trees f are h =
    let forest : Forest = record { items = items_of 0 trees; outermost = places 0 trees } in
    reading-faultless bytes forest f (
      trees,
      record {
        text = are.text;
        spelled = are.spelled;
        nested = are.nested;
        items = refl;
        outermost = refl;
      },
    ) h

-- bytes have one outcome
pub one_outcome : (bytes : List ℕ) (a b : Result File SpecFault) → IsOutcome bytes a → IsOutcome bytes b → a ≡ b
one_outcome bytes a b (inl (f, is, e)) (inl (g, are, d)) =
    e ∙ ap (λ (x : SexpFault). Err (text_fault x)) (fault-unique bytes f g is are) ∙ sym d
one_outcome bytes a b (inl (f, is, e)) (inr (trees, are, d)) = absurd (trees_are_faultless bytes trees f are is)
one_outcome bytes a b (inr (trees, are, d)) (inl (f, is, e)) = absurd (trees_are_faultless bytes trees f are is)
one_outcome bytes a b (inr (trees, are, e)) (inr (others, is, d)) =
    e ∙ ap (λ (ts : Trees). file_read (length bytes) (list_of ts))
    (trees-unique (tokens bytes) trees others are.spelled is.spelled) ∙ sym d

one_error : (a b : SpecFault) → ◌≡◌ {A = Result File SpecFault} (Err a) (Err b) → a ≡ b
one_error a b e = cc

one_fault : (bytes : List ℕ) (a b : SpecFault) → IsOutcome bytes (Err a) → IsOutcome bytes (Err b) → a ≡ b
one_fault bytes a b is are = one_error a b (one_outcome bytes (Err a) (Err b) is are)

-- the same file, by the grammar
one_file : (bytes : List ℕ) (f g : File) → IsFile bytes f → IsFile bytes g → f ≡ g
one_file bytes f g is are = every-file bytes g f are (file-is-read bytes f is)

-- the same fault is said in the same way
same_reason : (bytes : List ℕ) (j k : SpecKind) (a b : SpecFault) (row column other_row other_column : ℕ) → a ≡ b
    → j ≡ a.kind → k ≡ b.kind → row ≡ line_at bytes a.from → column ≡ column_at bytes a.from
    → other_row ≡ line_at bytes b.from → other_column ≡ column_at bytes b.from
    → Faulty j row column ≡ Faulty k other_row other_column
same_reason bytes j k a b row column other_row other_column same p q r c s d =
    let kinds : j ≡ k = p ∙ ap (λ (f : SpecFault). f.kind) same ∙ sym q in
    let rows : row ≡ other_row = r ∙ ap (λ (f : SpecFault). line_at bytes f.from) same ∙ sym s in
    let columns : column ≡ other_column = c ∙ ap (λ (f : SpecFault). column_at bytes f.from) same ∙ sym d in
    ap (λ (x : SpecKind). Faulty x row column) kinds ∙ ap (λ (x : ℕ). Faulty k x column) rows
    ∙ ap (λ (x : ℕ). Faulty k other_row x) columns

same_place : (bytes : List ℕ) (j k : SpecKind) (row column other_row other_column : ℕ)
    → IsFaultAt bytes j row column → IsFaultAt bytes k other_row other_column
    → Faulty j row column ≡ Faulty k other_row other_column
same_place bytes j k row column other_row other_column is are =
    same_reason bytes j k is.fault are.fault row column other_row other_column
    (one_fault bytes is.fault are.fault is.first are.first) is.kind are.kind is.row_is is.column_is are.row_is
    are.column_is

too_long : (size most : ℕ) → size ≤ most → most < size → ⊥
too_long size most short long = omega (arith, short, long)

not_both : (bytes : List ℕ) (f g : File) → IsFile bytes f → IsFile bytes g → HasMemory f → (HasMemory g → ⊥) → ⊥
not_both bytes f g is are memory none = none (subst HasMemory (one_file bytes f g is are) memory)

-- bytes have one reason to be refused
pub one_reason : (bytes : List ℕ) (bound : ℕ) (a b : Reason) → IsReason bytes bound a → IsReason bytes bound b → a ≡ b
one_reason bytes bound TooLong TooLong p q = refl
one_reason bytes bound TooLong (Faulty k row column) p q = absurd (too_long _ _ q.0 p)
one_reason bytes bound TooLong MemLater p q = absurd (too_long _ _ q.0 p)
one_reason bytes bound TooLong TooMany p q = absurd (too_long _ _ q.0 p)
one_reason bytes bound (Faulty k row column) TooLong p q = absurd (too_long _ _ p.0 q)
one_reason bytes bound (Faulty j row column) (Faulty k other_row other_column) p q =
    same_place bytes j k row column other_row other_column p.1 q.1
one_reason bytes bound (Faulty k row column) MemLater p q =
    absurd (no-fault bytes q.1.0 p.1.fault q.1.1 p.1.first)
one_reason bytes bound (Faulty k row column) TooMany p q =
    absurd (no-fault bytes q.1.0 p.1.fault q.1.1 p.1.first)
one_reason bytes bound MemLater TooLong p q = absurd (too_long _ _ p.0 q)
one_reason bytes bound MemLater (Faulty k row column) p q =
    absurd (no-fault bytes p.1.0 q.1.fault p.1.1 q.1.first)
one_reason bytes bound MemLater MemLater p q = refl
one_reason bytes bound MemLater TooMany p q =
    absurd (not_both bytes p.1.0 q.1.0 p.1.1 q.1.1 p.1.2 q.1.2)
one_reason bytes bound TooMany TooLong p q = absurd (too_long _ _ p.0 q)
one_reason bytes bound TooMany (Faulty k row column) p q =
    absurd (no-fault bytes p.1.0 q.1.fault p.1.1 q.1.first)
one_reason bytes bound TooMany MemLater p q =
    absurd (not_both bytes q.1.0 p.1.0 q.1.1 p.1.1 q.1.2 p.1.2)
one_reason bytes bound TooMany TooMany p q = refl

-- a file has too many claims, and has not
not_many : (bytes : List ℕ) (bound : ℕ) (f g : File) → IsAccepted bytes bound f → IsFile bytes g
    → most_claims < claim_count (plan_of g bound) → ⊥
not_many bytes bound f g accepted is many =
    too_long (claim_count (plan_of f bound)) most_claims accepted.few
    (subst (λ (x : File). most_claims < claim_count (plan_of x bound)) (one_file bytes g f is accepted.is_file) many)

-- an accepted file has no reason to be refused
pub no_reason : (bytes : List ℕ) (bound : ℕ) (f : File) (reason : Reason) → IsAccepted bytes bound f
    → IsReason bytes bound reason → ⊥
no_reason bytes bound f TooLong accepted why = too_long _ _ accepted.short why
no_reason bytes bound f (Faulty k row column) accepted why =
    no-fault bytes f why.1.fault accepted.is_file why.1.first
no_reason bytes bound f MemLater accepted why =
    not_both bytes why.1.0 f why.1.1 accepted.is_file why.1.2 accepted.no_memory
no_reason bytes bound f TooMany accepted why =
    not_many bytes bound f why.1.0 accepted why.1.1 why.1.3
