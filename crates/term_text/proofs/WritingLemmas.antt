-- The pieces of a text that is being written.
use Rattle.std.proofs.Common.{◌≡◌, ℕ, ◌+◌, ◌<◌, List, [], ◌∷◌, ◌++◌, length, map, reverse, codes, Some}
use Rattle.std.proofs.Common.{refl, sym, ap, ◌∙◌, subst, arith, append_assoc, slice_get, ◌-◌, drop, get_or}
use Rattle.std.proofs.Common.{Result, Ok, Err, OnOk, Bool, true, false, eqb}
use Rattle.std.proofs.lemmas.Bool.Decides.{Decides-eqb}
use Rattle.list_lemmas.proofs.Lists.{append-nothing}
use Rattle.std.specs.List.{flat_map}
use Rattle.std.specs.Prelude.{All}
use Rattle.std.proofs.lemmas.List.{reverse-append, length-reverse, get_or-reverse, drop_more, drop_all, map-append}
use Rattle.std.proofs.lemmas.Grind.{flat_map-append, reverse_onto}
use Rattle.std.proofs.lemmas.List.Concat.{flat_map-cons}
use Rattle.std.proofs.lemmas.List.Sums.{sum_by-append, sum_by-cons}
use Rattle.std.proofs.lemmas.List.Elements.{All-append, All-push, All-map, All-weaker}
use Rattle.bv_terms.specs.declared.op.Op.{Op}
use Rattle.bv_terms.specs.declared.op.TermId.{TermId}
use Rattle.bv_terms.specs.Term.{Term, Apply}
use Rattle.bv_terms.specs.Table.{Table, IsTable, term_at, terms_of, operands}
use Rattle.bv_terms.proofs.TableLemmas.{term_at-node}
use Rattle.term_text.specs.declared.write.Piece.{Piece}
use Rattle.term_text.specs.declared.write.Piece.TheVariants.{Operand, Close}
use Rattle.term_text.specs.Text.{constant_text, op_text, term_text, operands_text}
use Rattle.term_text.specs.Writing.{piece_text, stack_text, term_size, operands_size, piece_size, stack_size}
use Rattle.term_text.specs.Writing.{IsPiece, ArePieces}

-- ---- one more on the stack

reverse-push : {A : Type 0} (xs : List A) (x : A) → reverse (xs ++ x ∷ []) ≡ x ∷ reverse xs
reverse-push xs x = reverse-append xs (x ∷ [])

pub stack_text-push : (names : List (List ℕ)) (table : Table) (pieces : List Piece) (piece : Piece)
    → stack_text names table (pieces ++ piece ∷ []) ≡ piece_text names table piece ++ stack_text names table pieces
stack_text-push names table pieces piece =
    ap (flat_map (piece_text names table)) (reverse-push pieces piece)
    ∙ flat_map-cons (piece_text names table) piece (reverse pieces)

pub stack_size-push : (table : Table) (pieces : List Piece) (piece : Piece)
    → stack_size table (pieces ++ piece ∷ []) ≡ stack_size table pieces + piece_size table piece
stack_size-push table pieces piece =
    let one = sum_by-cons (piece_size table) piece [] in
    omega (arith, sum_by-append (piece_size table) pieces (piece ∷ []), one)

-- ---- operands on the stack

operands-texts : (names : List (List ℕ)) (table : Table) (args : List TermId)
    → flat_map (piece_text names table) (map Operand args) ≡ operands_text names (operands (terms_of table) args)
unfolding term_text
operands-texts names table [] = refl
operands-texts names table (at ∷ args) =
    flat_map-cons (piece_text names table) (Operand at) (map Operand args)
    ∙ ap (λ bs. codes " " ++ term_text names (term_at table at) ++ bs) (operands-texts names table args)

reverse-map : (args : List TermId) → reverse (map Operand (reverse args)) ≡ map Operand args
reverse-map [] = refl
reverse-map (at ∷ args) =
    ap (λ ids. reverse (map Operand ids)) (reverse_onto args at [])
    ∙ ap reverse (map-append Operand (reverse args) (at ∷ []))
    ∙ reverse-push (map Operand (reverse args)) (Operand at)
    ∙ ap (λ ps. Operand at ∷ ps) (reverse-map args)

operands-sizes : (table : Table) (args : List TermId)
    → stack_size table (map Operand (reverse args)) ≡ operands_size (operands (terms_of table) args)
unfolding term_size
operands-sizes table [] = refl
operands-sizes table (at ∷ args) =
    let whole = ap (λ ids. stack_size table (map Operand ids)) (reverse_onto args at [])
    ∙ ap (stack_size table) (map-append Operand (reverse args) (at ∷ [])) in
    omega (arith, whole, stack_size-push table (map Operand (reverse args)) (Operand at), operands-sizes table args)

-- how a stack grows where an operation begins
abbrev pub grown : List Piece → List TermId → List Piece
grown pieces args = (pieces ++ Close ∷ []) ++ map Operand (reverse args)

regroup : (out begin head ops end rest : List ℕ)
    → ((out ++ begin) ++ head) ++ (ops ++ (end ++ rest)) ≡ (out ++ (((begin ++ head) ++ ops) ++ end)) ++ rest
regroup out begin head ops end rest = simp append_assoc

pub begin-text : (names : List (List ℕ)) (table : Table) → IsTable table → (at : TermId) (o : Op)
    (args : List TermId) → 0 < length args → slice_get table.nodes at.0 ≡ Some (record { op = o; args = args })
    → (out : List ℕ) (pieces : List Piece)
    → ((out ++ codes "(") ++ op_text o) ++ stack_text names table (grown pieces args)
    ≡ out ++ term_text names (term_at table at) ++ stack_text names table pieces
unfolding term_text
begin-text names table is at o [] some h out pieces = absurd (omega arith)
begin-text names table is at o (a ∷ args) some h out pieces =
    let ops = operands_text names (operands (terms_of table) (a ∷ args)) in
    let rest = stack_text names table pieces in
    let stack : stack_text names table (grown pieces (a ∷ args)) ≡ ops ++ (codes ")" ++ rest) =
    ap (flat_map (piece_text names table)) (reverse-append (pieces ++ Close ∷ []) (map Operand (reverse (a ∷ args)))
    ∙ ap (λ ps. ps ++ reverse (pieces ++ Close ∷ [])) (reverse-map (a ∷ args)))
    ∙ flat_map-append (piece_text names table) (map Operand (a ∷ args)) (reverse (pieces ++ Close ∷ []))
    ∙ ap (λ bs. bs ++ stack_text names table (pieces ++ Close ∷ [])) (operands-texts names table (a ∷ args))
    ∙ ap (λ bs. ops ++ bs) (stack_text-push names table pieces Close) in
    ap (λ bs. ((out ++ codes "(") ++ op_text o) ++ bs) stack
    ∙ regroup out (codes "(") (op_text o) ops (codes ")") rest
    ∙ ap (λ t. out ++ term_text names t ++ rest) (sym (term_at-node table is at (record { op = o; args = a ∷ args }) h))

pub begin-size : (table : Table) → IsTable table → (at : TermId) (o : Op) (args : List TermId)
    → slice_get table.nodes at.0 ≡ Some (record { op = o; args = args }) → (pieces : List Piece)
    → stack_size table (grown pieces args) < stack_size table pieces + term_size (term_at table at)
unfolding term_size
begin-size table is at o args h pieces =
    let node = ap term_size (term_at-node table is at (record { op = o; args = args }) h) in
    omega (
      arith,
      node,
      operands-sizes table args,
      stack_size-push table pieces Close,
      sum_by-append (piece_size table) (pieces ++ Close ∷ []) (map Operand (reverse args)),
    )

pub begin-constant : (names : List (List ℕ)) (table : Table) → IsTable table → (at : TermId) (o : Op)
    (args : List TermId) → length args ≡ 0 → slice_get table.nodes at.0 ≡ Some (record { op = o; args = args })
    → constant_text names o ≡ term_text names (term_at table at)
unfolding term_text
begin-constant names table is at o (a ∷ args) none h = absurd (omega arith)
begin-constant names table is at o [] none h =
    ap (term_text names) (sym (term_at-node table is at (record { op = o; args = [] }) h))

pub some-size : (t : Term) → 0 < term_size t
unfolding term_size
some-size (Apply o ts) = omega arith

All-reverse : (P : TermId → Type 0) (ids : List TermId) → All P ids → All P (reverse ids)
All-reverse P ids all k d lt =
    let within : k < length ids = omega (arith, length-reverse ids) in
    subst P (sym (get_or-reverse ids k d within)) (all (length ids - 1 - k) d (omega arith))

pub begin-pieces : (table : Table) → IsTable table → (at : TermId) (o : Op) (args : List TermId)
    → slice_get table.nodes at.0 ≡ Some (record { op = o; args = args }) → at.0 < length table.nodes
    → (pieces : List Piece) → ArePieces table pieces → ArePieces table (grown pieces args)
begin-pieces table is at o args h within pieces all =
    let ids = All-weaker (λ (a : TermId). a.0 < at.0) (λ (a : TermId). IsPiece table (Operand a))
    (λ a lt. omega (arith, lt, within)) args (is.earlier at.0 (record { op = o; args = args }) h) in
    All-append (IsPiece table) (pieces ++ Close ∷ []) (map Operand (reverse args))
    (All-push (IsPiece table) pieces Close all tt)
    (All-map (IsPiece table) Operand (reverse args)
    (All-reverse (λ (a : TermId). IsPiece table (Operand a)) args ids))

-- ---- operands put on the stack one by one, the last one first

pub operands-more : (pieces now new : List Piece) (ids : List TermId) (i k : ℕ) (d : TermId) → i < length ids
    → i + 1 ≡ k → now ≡ pieces ++ map Operand (reverse (drop k ids)) → new ≡ now ++ Operand (get_or ids i d) ∷ []
    → new ≡ pieces ++ map Operand (reverse (drop i ids))
operands-more pieces now new ids i k d lt next before pushed =
    let at = get_or ids i d in
    let rest = reverse (drop (i + 1) ids) in
    pushed
    ∙ ap (λ ps. ps ++ Operand at ∷ []) (before ∙ ap (λ k. pieces ++ map Operand (reverse (drop k ids))) (sym next))
    ∙ append_assoc pieces (map Operand rest) (Operand at ∷ [])
    ∙ ap (λ ps. pieces ++ ps) (sym (map-append Operand rest (at ∷ [])))
    ∙ ap (λ ids. pieces ++ map Operand ids)
    (sym (ap reverse (drop_more ids i d lt) ∙ reverse_onto (drop (i + 1) ids) at []))

pub operands-start : (pieces now : List Piece) (ids : List TermId) (k : ℕ) → now ≡ pieces → k ≡ length ids
    → now ≡ pieces ++ map Operand (reverse (drop k ids))
operands-start pieces now ids k same all =
    same ∙ sym (append-nothing pieces)
    ∙ ap (λ ids. pieces ++ map Operand (reverse ids)) (sym (drop_all k ids (omega (arith, all))))

-- ---- what a step leaves, where there was memory

pub constant-written : {T E : Type 0} (r : Result T E) (new out text t stack : List ℕ) → text ≡ t
    → OnOk r (new ≡ out ++ text) → OnOk r (new ++ stack ≡ out ++ t ++ stack)
constant-written (Ok a) new out text t stack same h = ap (λ bs. bs ++ stack) (h ∙ ap (λ bs. out ++ bs) same)
constant-written (Err e) new out text t stack same h = tt

pub constant-less : {T E : Type 0} (r : Result T E) (n : ℕ) (t : Term) → OnOk r (n < n + term_size t)
constant-less (Ok a) n t = omega (arith, some-size t)
constant-less (Err e) n t = tt

pub begun-text : {T E : Type 0} (r : Result T E) (names : List (List ℕ)) (table : Table) → IsTable table
    → (at : TermId) (o : Op) (args : List TermId) → 0 < length args
    → slice_get table.nodes at.0 ≡ Some (record { op = o; args = args }) → (out new : List ℕ)
    → (pieces pushed stack : List Piece) → new ≡ (out ++ codes "(") ++ op_text o → pushed ≡ pieces ++ Close ∷ []
    → OnOk r (stack ≡ pushed ++ map Operand (reverse args))
    → OnOk r (new ++ stack_text names table stack
    ≡ out ++ term_text names (term_at table at) ++ stack_text names table pieces)
begun-text (Ok a) names table is at o args some h out new pieces pushed stack e f g =
    ap (λ bs. bs ++ stack_text names table stack) e
    ∙ ap (λ ps. ((out ++ codes "(") ++ op_text o) ++ stack_text names table ps)
    (g ∙ ap (λ ps. ps ++ map Operand (reverse args)) f)
    ∙ begin-text names table is at o args some h out pieces
begun-text (Err x) names table is at o args some h out new pieces pushed stack e f g = tt

pub begun-size : {T E : Type 0} (r : Result T E) (table : Table) → IsTable table → (at : TermId) (o : Op)
    (args : List TermId) → slice_get table.nodes at.0 ≡ Some (record { op = o; args = args })
    → (pieces pushed stack : List Piece) → pushed ≡ pieces ++ Close ∷ []
    → OnOk r (stack ≡ pushed ++ map Operand (reverse args))
    → OnOk r (stack_size table stack < stack_size table pieces + term_size (term_at table at))
begun-size (Ok a) table is at o args h pieces pushed stack f g =
    subst (λ ps. stack_size table ps < stack_size table pieces + term_size (term_at table at))
    (sym (g ∙ ap (λ ps. ps ++ map Operand (reverse args)) f)) (begin-size table is at o args h pieces)
begun-size (Err x) table is at o args h pieces pushed stack f g = tt

pub begun-pieces : {T E : Type 0} (r : Result T E) (table : Table) → IsTable table → (at : TermId) (o : Op)
    (args : List TermId) → slice_get table.nodes at.0 ≡ Some (record { op = o; args = args })
    → at.0 < length table.nodes → (pieces pushed stack : List Piece) → ArePieces table pieces
    → pushed ≡ pieces ++ Close ∷ [] → OnOk r (stack ≡ pushed ++ map Operand (reverse args))
    → OnOk r (ArePieces table stack)
begun-pieces (Ok a) table is at o args h within pieces pushed stack all f g =
    subst (ArePieces table) (sym (g ∙ ap (λ ps. ps ++ map Operand (reverse args)) f))
    (begin-pieces table is at o args h within pieces all)
begun-pieces (Err x) table is at o args h within pieces pushed stack all f g = tt

pub no-args : (args : List TermId) (b : Bool) → b ≡ eqb (length args) 0 → b ≡ true → length args ≡ 0
no-args args b h k = (Decides-eqb (length args) 0).0 (sym h ∙ k)

pub some-args : (args : List TermId) (b : Bool) → b ≡ eqb (length args) 0 → b ≡ false → 0 < length args
some-args [] b h k = absurd (cc (sym h ∙ k))
some-args (a ∷ args) b h k = omega arith
