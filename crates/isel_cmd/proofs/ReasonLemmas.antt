-- The texts of reasons: they are of one line, and no other line of a failure is one of theirs.
use Rattle.std.proofs.Common.{◌≡◌, ℕ, ◌^◌, ◌<◌, ◌≤◌, List, [], ◌∷◌, ◌++◌, length, take, drop, get_or, reverse}
use Rattle.std.proofs.Common.{true, false, codes, refl, ap, ◌∙◌, sym, arith}
use Rattle.std.specs.Fmt.{decimal}
use Rattle.std.proofs.lemmas.Bool.{false≢true}
use Rattle.std.proofs.lemmas.List.{append_cancel_left, length-take, length-reverse}
use Rattle.std.proofs.lemmas.List.Sums.{count_by-le-length, prefix_len-le-length}
use Rattle.pattern_text.specs.Text.{line}
use Rattle.spec_reader.specs.declared.fault.SpecKind.{SpecKind}
use Rattle.spec_reader.specs.declared.fault.SpecKind.TheVariants as kind
use Rattle.isel_cmd.specs.declared.refusal.Reason.{Reason}
use Rattle.isel_cmd.specs.declared.refusal.Reason.TheVariants.{TooLong, Faulty, MemLater, TooMany}
use Rattle.isel_cmd.specs.Refusal.{most_bytes, is_line_feed, is_in_line, line_at, column_at, IsReason, kind_name}
use Rattle.isel_cmd.specs.Refusal.{reason_text, refusal_line}
use Rattle.isel_cmd.specs.Status.{unread_line, memory_line}
use Rattle.isel_cmd.proofs.LineLemmas.{has, has-left, has-right, has-neither, decimal_has_no_feed}

line_is_small : (bytes : List ℕ) (place : ℕ) → length bytes ≤ most_bytes → line_at bytes place < 2 ^ 64
line_is_small bytes place short =
    let count = count_by-le-length is_line_feed (take place bytes) in
    omega (arith, short, count, length-take place bytes)

column_is_small : (bytes : List ℕ) (place : ℕ) → length bytes ≤ most_bytes → column_at bytes place < 2 ^ 64
column_is_small bytes place short =
    let count = prefix_len-le-length is_in_line (reverse (take place bytes)) in
    omega (arith, short, count, length-reverse (take place bytes), length-take place bytes)

kind_has_no_feed : (k : SpecKind) → has 10 (kind_name k) ≡ false
kind_has_no_feed kind.NotText = refl
kind_has_no_feed kind.Unclosed = refl
kind_has_no_feed kind.Stray = refl
kind_has_no_feed kind.Deep = refl
kind_has_no_feed kind.Unknown = refl
kind_has_no_feed kind.Literal = refl
kind_has_no_feed kind.Index = refl
kind_has_no_feed kind.Arity = refl
kind_has_no_feed kind.Sorts = refl
kind_has_no_feed kind.Width = refl
kind_has_no_feed kind.Head = refl
kind_has_no_feed kind.TwiceNamed = refl
kind_has_no_feed (kind.Limit which found) = refl
kind_has_no_feed kind.MemShape = refl
kind_has_no_feed kind.PointerReads = refl
kind_has_no_feed kind.NoMemory = refl

-- what is said of a fault, by the texts of its numbers
fault_has_no_feed : (row column name : List ℕ) → has 10 row ≡ false → has 10 column ≡ false → has 10 name ≡ false
    → has 10 (codes ":" ++ row ++ codes ":" ++ column ++ codes ": " ++ name) ≡ false
fault_has_no_feed row column name r c n =
    has-neither 10 (codes ":" ++ row ++ codes ":" ++ column ++ codes ": ") name
    (has-neither 10 (codes ":" ++ row ++ codes ":" ++ column) (codes ": ")
    (has-neither 10 (codes ":" ++ row ++ codes ":") column
    (has-neither 10 (codes ":" ++ row) (codes ":") (has-neither 10 (codes ":") row refl r) refl) c) refl) n

-- a reason is said in one line
pub reason_has_no_feed : (bytes : List ℕ) (bound : ℕ) (reason : Reason) → IsReason bytes bound reason
    → has 10 (reason_text reason) ≡ false
reason_has_no_feed bytes bound TooLong why = refl
reason_has_no_feed bytes bound (Faulty k row column) why =
    fault_has_no_feed (decimal row) (decimal column) (kind_name k)
    (ap (λ (n : ℕ). has 10 (decimal n)) why.1.row_is
    ∙ decimal_has_no_feed (line_at bytes why.1.fault.from) (line_is_small bytes why.1.fault.from why.0))
    (ap (λ (n : ℕ). has 10 (decimal n)) why.1.column_is
    ∙ decimal_has_no_feed (column_at bytes why.1.fault.from) (column_is_small bytes why.1.fault.from why.0))
    (kind_has_no_feed k)
reason_has_no_feed bytes bound MemLater why = refl
reason_has_no_feed bytes bound TooMany why = refl

-- ---- other lines

reason_has_colon : (reason : Reason) → has 58 (line (reason_text reason)) ≡ true
reason_has_colon TooLong = refl
reason_has_colon (Faulty k row column) = refl
reason_has_colon MemLater = refl
reason_has_colon TooMany = refl

pub memory_differs : (name : List ℕ) (reason : Reason) → memory_line ≡ refusal_line name reason → ⊥
memory_differs name reason e =
    let none : has 58 memory_line ≡ false = refl in
    false≢true (sym none ∙ ap (has 58) e ∙ has-right 58 name (line (reason_text reason)) (reason_has_colon reason))

-- after its first byte, what is said of a fault has another colon
fault_has_colon : (row column name : List ℕ)
    → has 58 (drop 1 (line (codes ":" ++ row ++ codes ":" ++ column ++ codes ": " ++ name))) ≡ true
fault_has_colon row column name =
    has-left 58 (row ++ codes ":" ++ column ++ codes ": " ++ name) (10 ∷ [])
    (has-left 58 (row ++ codes ":" ++ column ++ codes ": ") name
    (has-left 58 (row ++ codes ":" ++ column) (codes ": ")
    (has-left 58 (row ++ codes ":") column (has-right 58 row (codes ":") refl))))

unread_text_differs : (reason : Reason) → line (codes ": ReadFault") ≡ line (reason_text reason) → ⊥
unread_text_differs TooLong e =
    let bytes : 82 ≡ 84 = ap (λ (l : List ℕ). get_or l 2 0) e in omega (arith, bytes)
unread_text_differs (Faulty k row column) e =
    let none : has 58 (drop 1 (line (codes ": ReadFault"))) ≡ false = refl in
    false≢true (sym none ∙ ap (λ (l : List ℕ). has 58 (drop 1 l)) e
    ∙ fault_has_colon (decimal row) (decimal column) (kind_name k))
unread_text_differs MemLater e =
    let bytes : 82 ≡ 77 = ap (λ (l : List ℕ). get_or l 2 0) e in omega (arith, bytes)
unread_text_differs TooMany e =
    let bytes : 82 ≡ 84 = ap (λ (l : List ℕ). get_or l 2 0) e in omega (arith, bytes)

pub unread_differs : (name : List ℕ) (reason : Reason) → unread_line name ≡ refusal_line name reason → ⊥
unread_differs name reason e = unread_text_differs reason (append_cancel_left name _ _ e)
