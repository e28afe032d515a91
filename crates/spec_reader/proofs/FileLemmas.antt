-- A text is a file exactly where the walk over its trees gives that file.
use Rattle.std.proofs.Common.{◌≡◌, ℕ, ◌+◌, ◌≤◌, zero, suc, List, [], ◌∷◌, ◌++◌, length, map, Bool, true, false}
use Rattle.std.proofs.Common.{cond, not, ◌&&◌, ◌==◌, Option, Some, None, Result, Ok, Err, inl, inr, refl, sym}
use Rattle.std.proofs.Common.{ap, subst, ◌∙◌, arith, ⊎_elim, append_assoc, length-append}
use Rattle.std.specs.Prelude.{All, Contains, IsTrue, nat_le}
use Rattle.std.specs.List.{list_any}
use Rattle.std.specs.Option.{option_or}
use Rattle.std.specs.Str.{bytes_eq}
use Rattle.std.proofs.lemmas.Bool.{false≢true}
use Rattle.std.proofs.lemmas.Bool.Decides.{nat_tests}
use Rattle.std.proofs.lemmas.List.Elements.{All-nil, All-cons, All-append, Contains-append_left, Contains-append_right}
use Rattle.std.proofs.lemmas.List.Elements.{Contains-append_cases}
use Rattle.list_lemmas.proofs.Bools.{and_parts, and_left, and_right, and-both, false_unless, le_true, le-from_test}
use Rattle.list_lemmas.proofs.Lists.{map-push, append-nothing}
use Rattle.list_lemmas.proofs.Lookups.{any_name, any-there, not-any, Contains-first, Contains-cases, All-front}
use Rattle.list_lemmas.proofs.Lookups.{all-right, only_one}
use Rattle.bv_terms.specs.Term.{Term}
use Rattle.bv_terms.specs.Sorts.{width_of}
use Rattle.sexp_read.specs.declared.fault.SexpFault.{SexpFault}
use Rattle.sexp_read.specs.declared.forest.Forest.{Forest}
use Rattle.sexp_read.specs.Token.{tokens}
use Rattle.sexp_read.specs.Tree.{Tree, Trees, list_of}
use Rattle.sexp_read.specs.Fault.{IsFault}
use Rattle.sexp_read.specs.Forest.{places, items_of}
use Rattle.sexp_read.proofs.FaultLemmas.{trees-unique, reading-faultless}
use Rattle.term_text.specs.declared.fault.TermFault.{TermFault}
use Rattle.term_text.specs.Head.{Span, span_of}
use Rattle.term_text.specs.Reading.{Scope, term_read}
use Rattle.term_text.proofs.GrammarLemmas.{read-is-term, term-is-read}
use Rattle.isel_spec.specs.File.{File, Operation, Goal, differ}
use Rattle.isel_spec.specs.Memory.{subterm_count, has_memory_shape, has_plain_pointers, accessed_bytes}
use Rattle.isel_spec.proofs.NameLists.{differ-insert, differ-twice}
use Rattle.spec_reader.specs.declared.fault.SpecFault.{SpecFault}
use Rattle.spec_reader.specs.declared.fault.SpecKind.{SpecKind}
use Rattle.spec_reader.specs.declared.fault.SpecKind.TheVariants as fault
use Rattle.spec_reader.specs.declared.fault.Which.{Which}
use Rattle.spec_reader.specs.declared.fault.Which.TheVariants as which
use Rattle.spec_reader.specs.Form.{Param, Parts, name_of, parts_in, head_in}
use Rattle.spec_reader.specs.Walk.{fault_at, and_then, unless, or_fault, above, long_name, twice_named}
use Rattle.spec_reader.specs.Walk.{name_fault, names_fault, defined, count_fault, limit_fault, scope_from, params_of}
use Rattle.spec_reader.specs.Walk.{of_term, result_read, results_read, sorts_of, goal_fault, results_fault}
use Rattle.spec_reader.specs.Walk.{with_definition, definition_fault, definition_read, item_read, items_read, head_read}
use Rattle.spec_reader.specs.Walk.{end_fault, file_read}
use Rattle.spec_reader.specs.File.{AreTerms, AreNames, Defines, Adds, IsFile}
use Rattle.spec_reader.specs.Outcome.{IsOutcome, AreTrees}

-- ---- steps that may fail

same_ok : {A E : Type 0} (a b : A) → ◌≡◌ {A = Result A E} (Ok a) (Ok b) → a ≡ b
same_ok a b h = cc

and_then-ok : {A B : Type 0} (r : Result A SpecFault) (next : A → Result B SpecFault) (b : B)
    → and_then r next ≡ Ok b → (a : A) × (r ≡ Ok a) × (next a ≡ Ok b)
and_then-ok (Ok a) next b h = (a, refl, h)
and_then-ok (Err f) next b h = absurd (cc)

or_fault-ok : {A : Type 0} (k : SpecKind) (span : Span) (o : Option A) (a : A) → or_fault k span o ≡ Ok a
    → o ≡ Some a
or_fault-ok k span (Some x) a h = ap Some (same_ok x a h)
or_fault-ok k span None a h = absurd (cc)

unless-ok : {A : Type 0} (o : Option SpecFault) (r : Result A SpecFault) (a : A) → unless o r ≡ Ok a
    → (o ≡ None) × (r ≡ Ok a)
unless-ok (Some f) r a h = absurd (cc)
unless-ok None r a h = (refl, h)

-- a test that stands before a value
cond-ok : {A : Type 0} (b : Bool) (r : Result A SpecFault) (f : SpecFault) (a : A) → cond b r (Err f) ≡ Ok a
    → (b ≡ true) × (r ≡ Ok a)
cond-ok true r f a h = (refl, h)
cond-ok false r f a h = absurd (cc)

cond-true : {A : Type 0} (b : Bool) (x y : A) → b ≡ true → cond b x y ≡ x
cond-true true x y h = refl
cond-true false x y h = absurd (cc)

cond-false : {A : Type 0} (b : Bool) (x y : A) → b ≡ false → cond b x y ≡ y
cond-false true x y h = absurd (cc)
cond-false false x y h = refl

-- ---- no fault

none-or : (a b : Option SpecFault) → option_or a b ≡ None → (a ≡ None) × (b ≡ None)
none-or None b h = (refl, h)
none-or (Some f) b h = absurd (cc)

or-none : (a b : Option SpecFault) → a ≡ None → b ≡ None → option_or a b ≡ None
or-none None b h k = k
or-none (Some f) b h k = absurd (cc)

-- a fault that a test keeps away
passed : (b : Bool) (f : SpecFault) → cond b None (Some f) ≡ None → b ≡ true
passed true f h = refl
passed false f h = absurd (cc)

missed : (b : Bool) (f : SpecFault) → cond b (Some f) None ≡ None → b ≡ false
missed true f h = absurd (cc)
missed false f h = refl

not-above : (what : Which) (most found : ℕ) (span : Span) → above what most found span ≡ None → found ≤ most
not-above what most found span h =
    le-from_test found most (passed (nat_le found most) (fault_at (fault.Limit what found) span) h)

within-most : (what : Which) (most found : ℕ) (span : Span) → found ≤ most → above what most found span ≡ None
within-most what most found span h =
    cond-true (nat_le found most) None (Some (fault_at (fault.Limit what found) span)) (le_true found most h)

-- ---- names

nothing-there : (n : List ℕ) → Contains [] n → ⊥
nothing-there n c = omega (arith, c.1)

none-there : (name : List ℕ) (names : List (List ℕ)) → (Contains names name → ⊥)
    → list_any (bytes_eq name) names ≡ false
none-there name names h = false_unless (list_any (bytes_eq name) names) (λ e. h (any-there name names e))

not-there : (name : List ℕ) (names : List (List ℕ)) → list_any (bytes_eq name) names ≡ false → Contains names name → ⊥
not-there name names h c = false≢true (sym h ∙ any_name name names c)

-- a name of at most 64 bytes that stands nowhere among others
abbrev IsNew : List (List ℕ) → List ℕ → Type 0
IsNew earlier name = (length name ≤ 64) × (Contains earlier name → ⊥)

name-is_new : (earlier : List (List ℕ)) (name : Tree) → name_fault earlier name ≡ None → IsNew earlier (name_of name)
name-is_new earlier name h =
    let both = none-or (long_name name) (twice_named earlier name) h in
    let free = missed (list_any (bytes_eq (name_of name)) earlier) (fault_at fault.TwiceNamed (span_of name)) both.1 in
    (not-above which.Name 64 (length (name_of name)) (span_of name) both.0, not-there (name_of name) earlier free)

new-name : (earlier : List (List ℕ)) (name : Tree) → IsNew earlier (name_of name) → name_fault earlier name ≡ None
new-name earlier name h = or-none (long_name name) (twice_named earlier name)
    (within-most which.Name 64 (length (name_of name)) (span_of name) h.0)
    (cond-false (list_any (bytes_eq (name_of name)) earlier) (Some (fault_at fault.TwiceNamed (span_of name))) None
    (none-there (name_of name) earlier h.1))

-- none of the second stands among the first
abbrev AreApart : List (List ℕ) → List (List ℕ) → Type 0
AreApart earlier names = (n : List ℕ) → Contains names n → Contains earlier n → ⊥

names-are_new : (earlier : List (List ℕ)) (names : List Tree) → names_fault earlier names ≡ None
    → AreNames (map name_of names) × AreApart earlier (map name_of names)
names-are_new earlier [] h =
    (record { short = All-nil (λ (n : List ℕ). length n ≤ 64); differing = refl }, λ n c d. nothing-there n c)
names-are_new earlier (name ∷ names) h =
    let both = none-or (name_fault earlier name) (names_fault (earlier ++ name_of name ∷ []) names) h in
    let here = name-is_new earlier name both.0 in
    let more = names-are_new (earlier ++ name_of name ∷ []) names both.1 in
    let absent : Contains (map name_of names) (name_of name) → ⊥ =
    λ c. more.1 (name_of name) c
    (Contains-append_right earlier (name_of name ∷ []) (name_of name) (Contains-first (name_of name) [])) in (
      record {
        short = All-cons (λ (n : List ℕ). length n ≤ 64) (name_of name) (map name_of names) here.0 more.0.short;
        differing = and-both (not (list_any (bytes_eq (name_of name)) (map name_of names))) (differ (map name_of names))
            (ap not (none-there (name_of name) (map name_of names) absent)) more.0.differing;
      },
      λ n c d. ⊎_elim (λ e. here.1 (subst (Contains earlier) (sym e) d))
          (λ later. more.1 n later (Contains-append_left earlier (name_of name ∷ []) n d))
          (Contains-cases (name_of name) n (map name_of names) c),
    )

new-names : (earlier : List (List ℕ)) (names : List Tree) → AreNames (map name_of names)
    → AreApart earlier (map name_of names) → names_fault earlier names ≡ None
new-names earlier [] h k = refl
new-names earlier (name ∷ names) h k =
    let P : List ℕ → Type 0 = λ n. length n ≤ 64 in
    let both = and_parts (not (list_any (bytes_eq (name_of name)) (map name_of names))) (differ (map name_of names))
    h.differing in
    or-none (name_fault earlier name) (names_fault (earlier ++ name_of name ∷ []) names)
    (new-name earlier name (
      first-of P (name_of name) (map name_of names) h.short,
      k (name_of name) (Contains-first (name_of name) (map name_of names)),
    ))
    (new-names (earlier ++ name_of name ∷ []) names
    (record { short = all-right P (name_of name ∷ []) (map name_of names) h.short; differing = both.1 })
    (λ n c d. ⊎_elim (λ old. k n (Contains-append_right (name_of name ∷ []) (map name_of names) n c) old)
    (λ here. not-any (name_of name) (map name_of names) both.0
    (subst (Contains (map name_of names)) (sym (only_one (name_of name) n here)) c))
    (Contains-append_cases earlier (name_of name ∷ []) n d)))
  where
    first-of : (P : List ℕ → Type 0) (n : List ℕ) (ns : List (List ℕ)) → All P (n ∷ ns) → P n
    first-of P n ns a = a 0 n (omega arith)

-- names with one more among them
insert-names : (xs ys : List (List ℕ)) (name : List ℕ) → AreNames (xs ++ ys) → IsNew (xs ++ ys) name
    → AreNames (xs ++ name ∷ ys)
insert-names xs ys name h new =
    let P : List ℕ → Type 0 = λ n. length n ≤ 64 in
    record {
      short = All-append P xs (name ∷ ys) (All-front P xs ys h.short)
          (All-cons P name ys new.0 (all-right P xs ys h.short));
      differing = differ-insert xs ys name h.differing new.1;
    }

widened : (xs ys : List (List ℕ)) (name n : List ℕ) → Contains (xs ++ ys) n → Contains (xs ++ name ∷ ys) n
widened xs ys name n c = ⊎_elim (λ left. Contains-append_left xs (name ∷ ys) n left)
    (λ right. Contains-append_right xs (name ∷ ys) n (Contains-append_right (name ∷ []) ys n right))
    (Contains-append_cases xs ys n c)

differ-without : (xs ys : List (List ℕ)) (name : List ℕ) → differ (xs ++ name ∷ ys) ≡ true → differ (xs ++ ys) ≡ true
differ-without [] ys name h = and_right (not (list_any (bytes_eq name) ys)) (differ ys) h
differ-without (x ∷ xs) ys name h =
    let both = and_parts (not (list_any (bytes_eq x) (xs ++ name ∷ ys))) (differ (xs ++ name ∷ ys)) h in
    and-both (not (list_any (bytes_eq x) (xs ++ ys))) (differ (xs ++ ys))
    (ap not (none-there x (xs ++ ys) (λ c. not-any x (xs ++ name ∷ ys) both.0 (widened xs ys name x c))))
    (differ-without xs ys name both.1)

absent-later : (xs ys : List (List ℕ)) (name : List ℕ) → differ (xs ++ name ∷ ys) ≡ true → Contains ys name → ⊥
absent-later [] ys name h c = not-any name ys (and_left (not (list_any (bytes_eq name) ys)) (differ ys) h) c
absent-later (x ∷ xs) ys name h c =
    absent-later xs ys name (and_right (not (list_any (bytes_eq x) (xs ++ name ∷ ys))) (differ (xs ++ name ∷ ys)) h) c

without-name : (xs ys : List (List ℕ)) (name : List ℕ) → AreNames (xs ++ name ∷ ys)
    → AreNames (xs ++ ys) × IsNew (xs ++ ys) name
without-name xs ys name h =
    let P : List ℕ → Type 0 = λ n. length n ≤ 64 in
    let back = all-right P xs (name ∷ ys) h.short in (
      record {
        short = All-append P xs ys (All-front P xs (name ∷ ys) h.short) (all-right P (name ∷ []) ys back);
        differing = differ-without xs ys name h.differing;
      },
      (
        back 0 name (omega arith),
        λ c. ⊎_elim
            (λ left. false≢true (sym (differ-twice xs name ys left) ∙ h.differing))
            (λ right. absent-later xs ys name h.differing right) (Contains-append_cases xs ys name c),
      ),
    )

-- ---- a file with one more definition

-- the limits that a file keeps as it grows
record IsWithin (f : File) : Type 0 where
  names : AreNames (defined f)
  ops : length f.ops ≤ 64
  goals : length f.goals ≤ 256

abbrev op_names : File → List (List ℕ)
op_names f = map (λ (o : Operation). o.name) f.ops

abbrev goal_names : File → List (List ℕ)
goal_names f = map (λ (g : Goal). g.name) f.goals

abbrev with_op : File → Operation → File
with_op f o = record f { ops = f.ops ++ o ∷ [] }

abbrev with_goal : File → Goal → File
with_goal f g = record f { goals = f.goals ++ g ∷ [] }

op-defined : (f : File) (o : Operation) → defined (with_op f o) ≡ op_names f ++ o.name ∷ goal_names f
op-defined f o = ap (λ ns. ns ++ goal_names f) (map-push (λ (p : Operation). p.name) f.ops o)
    ∙ append_assoc (op_names f) (o.name ∷ []) (goal_names f)

goal-defined : (f : File) (g : Goal) → defined (with_goal f g) ≡ defined f ++ g.name ∷ []
goal-defined f g = ap (λ ns. op_names f ++ ns) (map-push (λ (p : Goal). p.name) f.goals g)
    ∙ sym (append_assoc (op_names f) (goal_names f) (g.name ∷ []))

abbrev operation_of : Parts → List Term → Operation
operation_of parts ts = record {
  name = name_of parts.name;
  args = sorts_of parts.args;
  attrs = map width_of (sorts_of parts.attrs);
  results = ts;
}

abbrev goal_of : Parts → List Term → Goal
goal_of parts ts = record {
  name = name_of parts.name;
  kinds = map (λ (p : Param). p.kind) parts.args;
  args = sorts_of parts.args;
  cost = parts.cost;
  results = ts;
}

adds-op : (f : File) (parts : Parts) (ts : List Term) → parts.is_goal ≡ false
    → with_definition f parts ts ≡ with_op f (operation_of parts ts)
adds-op f parts ts h = cond-false parts.is_goal (with_goal f (goal_of parts ts)) (with_op f (operation_of parts ts)) h

adds-goal : (f : File) (parts : Parts) (ts : List Term) → parts.is_goal ≡ true
    → with_definition f parts ts ≡ with_goal f (goal_of parts ts)
adds-goal f parts ts h = cond-true parts.is_goal (with_goal f (goal_of parts ts)) (with_op f (operation_of parts ts)) h

counts-op : (f : File) (parts : Parts) (span : Span) → parts.is_goal ≡ false
    → count_fault f parts span ≡ above which.Ops 64 (length f.ops + 1) span
counts-op f parts span h = cond-false parts.is_goal (above which.Goals 256 (length f.goals + 1) span)
    (above which.Ops 64 (length f.ops + 1) span) h

counts-goal : (f : File) (parts : Parts) (span : Span) → parts.is_goal ≡ true
    → count_fault f parts span ≡ above which.Goals 256 (length f.goals + 1) span
counts-goal f parts span h = cond-true parts.is_goal (above which.Goals 256 (length f.goals + 1) span)
    (above which.Ops 64 (length f.ops + 1) span) h

longer : {A : Type 0} (xs : List A) (x : A) → length (xs ++ x ∷ []) ≡ length xs + 1
longer xs x = length-append xs (x ∷ [])

grows : (f : File) (parts : Parts) (ts : List Term) (span : Span) → IsWithin f → count_fault f parts span ≡ None
    → IsNew (defined f) (name_of parts.name) → IsWithin (with_definition f parts ts)
grows f parts ts span w count new = by_kind parts.is_goal refl
  where
    by_kind : (b : Bool) → parts.is_goal ≡ b → IsWithin (with_definition f parts ts)
    by_kind false e =
        let few = not-above which.Ops 64 (length f.ops + 1) span (sym (counts-op f parts span e) ∙ count) in
        subst IsWithin (sym (adds-op f parts ts e)) (record {
          names = subst AreNames (sym (op-defined f (operation_of parts ts)))
              (insert-names (op_names f) (goal_names f) (name_of parts.name) w.names new);
          ops = subst (λ n. n ≤ 64) (sym (longer f.ops (operation_of parts ts))) few;
          goals = w.goals;
        })
    by_kind true e =
        let few = not-above which.Goals 256 (length f.goals + 1) span (sym (counts-goal f parts span e) ∙ count) in
        let all = append-nothing (defined f) in
        subst IsWithin (sym (adds-goal f parts ts e)) (record {
          names = subst AreNames (sym (goal-defined f (goal_of parts ts)))
              (insert-names (defined f) [] (name_of parts.name) (subst AreNames (sym all) w.names)
              (subst (λ (ns : List (List ℕ)). IsNew ns (name_of parts.name)) (sym all) new));
          ops = w.ops;
          goals = subst (λ n. n ≤ 256) (sym (longer f.goals (goal_of parts ts))) few;
        })

-- a file before its last definition
record IsBefore (f : File) (parts : Parts) : Type 0 where
  within : IsWithin f
  new : IsNew (defined f) (name_of parts.name)
  count : (span : Span) → count_fault f parts span ≡ None

shrinks : (f : File) (parts : Parts) (ts : List Term) → IsWithin (with_definition f parts ts) → IsBefore f parts
shrinks f parts ts w = by_kind parts.is_goal refl
  where
    by_kind : (b : Bool) → parts.is_goal ≡ b → IsBefore f parts
    by_kind false e =
        let after = subst IsWithin (adds-op f parts ts e) w in
        let few : length f.ops + 1 ≤ 64 = subst (λ n. n ≤ 64) (longer f.ops (operation_of parts ts)) after.ops in
        let less = without-name (op_names f) (goal_names f) (name_of parts.name)
        (subst AreNames (op-defined f (operation_of parts ts)) after.names) in
        record {
          within = record { names = less.0; ops = omega (arith, few); goals = after.goals };
          new = less.1;
          count = λ span. counts-op f parts span e ∙ within-most which.Ops 64 (length f.ops + 1) span few;
        }
    by_kind true e =
        let after = subst IsWithin (adds-goal f parts ts e) w in
        let few : length f.goals + 1 ≤ 256 = subst (λ n. n ≤ 256) (longer f.goals (goal_of parts ts)) after.goals in
        let less = without-name (defined f) [] (name_of parts.name)
        (subst AreNames (goal-defined f (goal_of parts ts)) after.names) in
        let all = append-nothing (defined f) in
        record {
          within = record { names = subst AreNames all less.0; ops = after.ops; goals = omega (arith, few) };
          new = subst (λ (ns : List (List ℕ)). IsNew ns (name_of parts.name)) all less.1;
          count = λ span. counts-goal f parts span e ∙ within-most which.Goals 256 (length f.goals + 1) span few;
        }

pointer-kept : (f : File) (parts : Parts) (ts : List Term) → (with_definition f parts ts).pointer ≡ f.pointer
pointer-kept f parts ts = by_kind parts.is_goal refl
  where
    by_kind : (b : Bool) → parts.is_goal ≡ b → (with_definition f parts ts).pointer ≡ f.pointer
    by_kind false e = ap (λ (g : File). g.pointer) (adds-op f parts ts e)
    by_kind true e = ap (λ (g : File). g.pointer) (adds-goal f parts ts e)

-- ---- terms

term-ok : (r : Result Term TermFault) (t : Term) → of_term r ≡ Ok t → r ≡ Ok t
term-ok (Ok u) t h = ap Ok (same_ok u t h)
term-ok (Err f) t h = absurd (cc)

results-are : (p : ℕ) (scope : Scope) (trees : List Tree) (ts : List Term) → results_read p scope trees ≡ Ok ts
    → AreTerms p scope trees ts
results-are p scope [] ts h = subst (λ (us : List Term). AreTerms p scope [] us) (same_ok [] ts h) tt
results-are p scope (tree ∷ trees) ts h =
    let one = and_then-ok (result_read p scope tree)
    (λ t. and_then (results_read p scope trees) (λ us. Ok (t ∷ us))) ts h in
    let more = and_then-ok (results_read p scope trees) (λ us. Ok (one.0 ∷ us)) ts one.2 in
    subst (λ (us : List Term). AreTerms p scope (tree ∷ trees) us) (same_ok (one.0 ∷ more.0) ts more.2) (
      read-is-term p scope tree one.0 (term-ok (term_read p scope tree) one.0 one.1),
      results-are p scope trees more.0 more.1,
    )

are-results : (p : ℕ) (scope : Scope) (trees : List Tree) (ts : List Term) → AreTerms p scope trees ts
    → results_read p scope trees ≡ Ok ts
are-results p scope [] [] a = refl
are-results p scope [] (t ∷ ts) a = absurd a
are-results p scope (tree ∷ trees) [] a = absurd a
are-results p scope (tree ∷ trees) (t ∷ ts) a =
    ap (λ (r : Result Term TermFault). and_then (of_term r)
    (λ u. and_then (results_read p scope trees) (λ us. Ok (u ∷ us)))) (term-is-read p scope tree t a.0)
    ∙ ap (λ (r : Result (List Term) SpecFault). and_then r (λ us. Ok (t ∷ us))) (are-results p scope trees ts a.1)

-- ---- what is wrong with results together

goes-on : (b : Bool) (f : SpecFault) (o : Option SpecFault) → cond (not b) (Some f) o ≡ None
    → (b ≡ true) × (o ≡ None)
goes-on true f o h = (refl, h)
goes-on false f o h = absurd (cc)

abbrev pointer_fault : List Term → Span → Option SpecFault
pointer_fault ts span =
    cond (not (has_plain_pointers ts)) (Some (fault_at fault.PointerReads span))
    (above which.Bytes 32 (accessed_bytes ts) span)

goal-fits : (parts : Parts) (ts : List Term) (span : Span) → goal_fault parts ts span ≡ None → IsTrue parts.is_goal
    → IsTrue (has_plain_pointers ts) × (accessed_bytes ts ≤ 32)
goal-fits parts ts span h e =
    let both = goes-on (has_plain_pointers ts) (fault_at fault.PointerReads span)
    (above which.Bytes 32 (accessed_bytes ts) span)
    (sym (cond-false (not parts.is_goal) None (pointer_fault ts span) (ap not e)) ∙ h) in
    (both.0, not-above which.Bytes 32 (accessed_bytes ts) span both.1)

fits-goal : (parts : Parts) (ts : List Term) (span : Span) → (IsTrue parts.is_goal → IsTrue (has_plain_pointers ts))
    → (IsTrue parts.is_goal → accessed_bytes ts ≤ 32) → goal_fault parts ts span ≡ None
fits-goal parts ts span pointers bytes = by_kind parts.is_goal refl
  where
    by_kind : (b : Bool) → parts.is_goal ≡ b → goal_fault parts ts span ≡ None
    by_kind false e = cond-true (not parts.is_goal) None (pointer_fault ts span) (ap not e)
    by_kind true e =
        cond-false (not parts.is_goal) None (pointer_fault ts span) (ap not e)
        ∙ cond-false (not (has_plain_pointers ts)) (Some (fault_at fault.PointerReads span))
        (above which.Bytes 32 (accessed_bytes ts) span) (ap not (pointers e))
        ∙ within-most which.Bytes 32 (accessed_bytes ts) span (bytes e)

-- ---- a definition

names-of : (ps : List Param) → map name_of (map (λ (p : Param). p.name) ps) ≡ map (λ (q : Param). name_of q.name) ps
names-of [] = refl
names-of (p ∷ ps) = ap (λ (ns : List (List ℕ)). name_of p.name ∷ ns) (names-of ps)

-- what stands before a definition's terms fits
record IsFronted (f : File) (parts : Parts) (span : Span) : Type 0 where
  count : count_fault f parts span ≡ None
  new : IsNew (defined f) (name_of parts.name)
  args : length parts.args ≤ 4
  attrs : length parts.attrs ≤ 2
  results : length parts.results ≤ 3
  cost : parts.cost ≤ 65535
  names : AreNames (map (λ (q : Param). name_of q.name) (params_of parts))

abbrev bound : Parts → List Tree
bound parts = map (λ (p : Param). p.name) (params_of parts)

front-fits : (f : File) (parts : Parts) (span : Span) → definition_fault f span parts ≡ None → IsFronted f parts span
front-fits f parts span h =
    let named = names_fault [] (bound parts) in
    let later = option_or (limit_fault parts span) (option_or named None) in
    let one = none-or (count_fault f parts span) (option_or (name_fault (defined f) parts.name) later) h in
    let two = none-or (name_fault (defined f) parts.name) later one.1 in
    let three = none-or (limit_fault parts span) (option_or named None) two.1 in
    let four = none-or named None three.1 in
    let args = above which.Args 4 (length parts.args) span in
    let attrs = above which.Attrs 2 (length parts.attrs) span in
    let results = above which.Results 3 (length parts.results) span in
    let cost = above which.Cost 65535 parts.cost span in
    let first = none-or args (option_or attrs (option_or results (option_or cost None))) three.0 in
    let second = none-or attrs (option_or results (option_or cost None)) first.1 in
    let third = none-or results (option_or cost None) second.1 in
    let fourth = none-or cost None third.1 in
    record {
      count = one.0;
      new = name-is_new (defined f) parts.name two.0;
      args = not-above which.Args 4 (length parts.args) span first.0;
      attrs = not-above which.Attrs 2 (length parts.attrs) span second.0;
      results = not-above which.Results 3 (length parts.results) span third.0;
      cost = not-above which.Cost 65535 parts.cost span fourth.0;
      names = subst AreNames (names-of (params_of parts)) (names-are_new [] (bound parts) four.0).0;
    }

fits-front : (f : File) (parts : Parts) (span : Span) → IsFronted f parts span → definition_fault f span parts ≡ None
fits-front f parts span h =
    let named = names_fault [] (bound parts) in
    let args = above which.Args 4 (length parts.args) span in
    let attrs = above which.Attrs 2 (length parts.attrs) span in
    let results = above which.Results 3 (length parts.results) span in
    let cost = above which.Cost 65535 parts.cost span in
    let limits : limit_fault parts span ≡ None =
    or-none args (option_or attrs (option_or results (option_or cost None)))
    (within-most which.Args 4 (length parts.args) span h.args)
    (or-none attrs (option_or results (option_or cost None))
    (within-most which.Attrs 2 (length parts.attrs) span h.attrs)
    (or-none results (option_or cost None) (within-most which.Results 3 (length parts.results) span h.results)
    (or-none cost None (within-most which.Cost 65535 parts.cost span h.cost) refl))) in
    let names : named ≡ None = new-names [] (bound parts)
    (subst AreNames (sym (names-of (params_of parts))) h.names) (λ n c d. nothing-there n d) in
    or-none (count_fault f parts span)
    (option_or (name_fault (defined f) parts.name) (option_or (limit_fault parts span) (option_or named None))) h.count
    (or-none (name_fault (defined f) parts.name) (option_or (limit_fault parts span) (option_or named None))
    (new-name (defined f) parts.name h.new)
    (or-none (limit_fault parts span) (option_or named None) limits (or-none named None names refl)))

-- what a definition's results are together fits
record IsShaped (parts : Parts) (ts : List Term) : Type 0 where
  subterms : subterm_count ts ≤ 256
  memory : IsTrue (has_memory_shape (sorts_of parts.args) ts)
  pointers : IsTrue parts.is_goal → IsTrue (has_plain_pointers ts)
  bytes : IsTrue parts.is_goal → accessed_bytes ts ≤ 32

abbrev shape_fault : Parts → List Term → Span → Option SpecFault
shape_fault parts ts span =
    cond (has_memory_shape (sorts_of parts.args) ts) None (Some (fault_at fault.MemShape span))

results-fit : (parts : Parts) (ts : List Term) (span : Span) → results_fault parts ts span ≡ None → IsShaped parts ts
results-fit parts ts span h =
    let nodes = above which.Nodes 256 (subterm_count ts) span in
    let one = none-or nodes (option_or (shape_fault parts ts span) (option_or (goal_fault parts ts span) None)) h in
    let two = none-or (shape_fault parts ts span) (option_or (goal_fault parts ts span) None) one.1 in
    let three = none-or (goal_fault parts ts span) None two.1 in
    record {
      subterms = not-above which.Nodes 256 (subterm_count ts) span one.0;
      memory = passed (has_memory_shape (sorts_of parts.args) ts) (fault_at fault.MemShape span) two.0;
      pointers = λ e. (goal-fits parts ts span three.0 e).0;
      bytes = λ e. (goal-fits parts ts span three.0 e).1;
    }

fit-results : (parts : Parts) (ts : List Term) (span : Span) → IsShaped parts ts → results_fault parts ts span ≡ None
fit-results parts ts span h =
    let nodes = above which.Nodes 256 (subterm_count ts) span in
    or-none nodes (option_or (shape_fault parts ts span) (option_or (goal_fault parts ts span) None))
    (within-most which.Nodes 256 (subterm_count ts) span h.subterms)
    (or-none (shape_fault parts ts span) (option_or (goal_fault parts ts span) None)
    (cond-true (has_memory_shape (sorts_of parts.args) ts) None (Some (fault_at fault.MemShape span)) h.memory)
    (or-none (goal_fault parts ts span) None (fits-goal parts ts span h.pointers h.bytes) refl))

-- what an item that is read defines
record IsRead (f : File) (tree : Tree) (g : File) : Type 0 where
  parts : Parts
  ts : List Term
  defines : Defines f.pointer tree parts ts
  added : g ≡ with_definition f parts ts
  within : IsWithin g

read-defines : (f : File) (tree : Tree) (g : File) → item_read f tree ≡ Ok g → IsWithin f → IsRead f tree g
read-defines f tree g h w =
    let span = span_of tree in
    let one = and_then-ok (or_fault fault.Head span (parts_in tree)) (definition_read f span) g h in
    let parts = one.0 in
    let scope = scope_from 0 (params_of parts) in
    let last : List Term → Result File SpecFault =
    λ us. unless (results_fault parts us span) (Ok (with_definition f parts us)) in
    let two = unless-ok (definition_fault f span parts)
    (and_then (results_read f.pointer scope parts.results) last) g one.2 in
    let three = and_then-ok (results_read f.pointer scope parts.results) last g two.1 in
    let ts = three.0 in
    let four = unless-ok (results_fault parts ts span) (Ok (with_definition f parts ts)) g three.2 in
    let same : with_definition f parts ts ≡ g = same_ok (with_definition f parts ts) g four.1 in
    let front = front-fits f parts span two.0 in
    let shaped = results-fit parts ts span four.0 in
    record {
      parts = parts;
      ts = ts;
      defines = record {
        form = or_fault-ok fault.Head span (parts_in tree) parts one.1;
        few_args = front.args;
        few_attrs = front.attrs;
        few_results = front.results;
        cheap = front.cost;
        names = front.names;
        terms = results-are f.pointer scope parts.results ts three.1;
        few_subterms = shaped.subterms;
        memory = shaped.memory;
        pointers = shaped.pointers;
        bytes = shaped.bytes;
      };
      added = sym same;
      within = subst IsWithin same (grows f parts ts span w front.count front.new);
    }

defines-read : (f : File) (tree : Tree) (parts : Parts) (ts : List Term) → Defines f.pointer tree parts ts
    → IsWithin (with_definition f parts ts) → item_read f tree ≡ Ok (with_definition f parts ts)
defines-read f tree parts ts d w =
    let span = span_of tree in
    let scope = scope_from 0 (params_of parts) in
    let before = shrinks f parts ts w in
    let last : List Term → Result File SpecFault =
    λ us. unless (results_fault parts us span) (Ok (with_definition f parts us)) in
    let front = fits-front f parts span (record {
      count = before.count span;
      new = before.new;
      args = d.few_args;
      attrs = d.few_attrs;
      results = d.few_results;
      cost = d.cheap;
      names = d.names;
    }) in
    let shaped = fit-results parts ts span (record {
      subterms = d.few_subterms;
      memory = d.memory;
      pointers = d.pointers;
      bytes = d.bytes;
    }) in
    ap (λ (o : Option Parts). and_then (or_fault fault.Head span o) (definition_read f span)) d.form
    ∙ ap (λ (o : Option SpecFault). unless o (and_then (results_read f.pointer scope parts.results) last)) front
    ∙ ap (λ (r : Result (List Term) SpecFault). and_then r last) (are-results f.pointer scope parts.results ts d.terms)
    ∙ ap (λ (o : Option SpecFault). unless o (Ok (with_definition f parts ts))) shaped

-- ---- the items of a file

items-add : (f : File) (trees : List Tree) (g : File) → items_read f trees ≡ Ok g → IsWithin f
    → Adds f trees g × IsWithin g
items-add f [] g h w = (same_ok f g h, subst IsWithin (same_ok f g h) w)
items-add f (tree ∷ trees) g h w =
    let one = and_then-ok (item_read f tree) (λ more. items_read more trees) g h in
    let read = read-defines f tree one.0 one.1 w in
    let rest = items-add one.0 trees g one.2 read.within in
    ((read.parts, read.ts, read.defines, subst (λ (m : File). Adds m trees g) read.added rest.0), rest.1)

adds-within : (f : File) (trees : List Tree) (g : File) → Adds f trees g → IsWithin g → IsWithin f
adds-within f [] g e w = subst IsWithin (sym e) w
adds-within f (tree ∷ trees) g a w =
    (shrinks f a.0 a.1 (adds-within (with_definition f a.0 a.1) trees g a.3 w)).within

adds-read : (f : File) (trees : List Tree) (g : File) → Adds f trees g → IsWithin g → items_read f trees ≡ Ok g
adds-read f [] g e w = ap Ok e
adds-read f (tree ∷ trees) g a w =
    ap (λ (r : Result File SpecFault). and_then r (λ more. items_read more trees))
    (defines-read f tree a.0 a.1 a.2 (adds-within (with_definition f a.0 a.1) trees g a.3 w))
    ∙ adds-read (with_definition f a.0 a.1) trees g a.3 w

adds-pointer : (f : File) (trees : List Tree) (g : File) → Adds f trees g → g.pointer ≡ f.pointer
adds-pointer f [] g e = ap (λ (h : File). h.pointer) (sym e)
adds-pointer f (tree ∷ trees) g a =
    adds-pointer (with_definition f a.0 a.1) trees g a.3 ∙ pointer-kept f a.0 a.1

-- ---- a file

abbrev start : ℕ → File
start p = record { pointer = p; ops = []; goals = [] }

start-within : (p : ℕ) → IsWithin (start p)
start-within p = record {
  names = record { short = All-nil (λ (n : List ℕ). length n ≤ 64); differing = refl };
  ops = omega arith;
  goals = omega arith;
}

abbrev IsWidth : Tree → ℕ → Type 0
IsWidth tree p = (width : Tree) × (head_in tree ≡ Some (width, p)) × (1 ≤ p) × (p ≤ 64)

width-or-fault : Tree × ℕ → Result ℕ SpecFault
width-or-fault head =
    cond (nat_le 1 head.1 && nat_le head.1 64) (Ok head.1)
    (Err (fault_at (fault.Limit which.Pointer head.1) (span_of head.0)))

head-is : (tree : Tree) (p : ℕ) → head_read tree ≡ Ok p → IsWidth tree p
unfolding width-or-fault
head-is tree p h =
    let one = and_then-ok (or_fault fault.Head (span_of tree) (head_in tree)) width-or-fault p h in
    let found = or_fault-ok fault.Head (span_of tree) (head_in tree) one.0 one.1 in
    let two = cond-ok (nat_le 1 one.0.1 && nat_le one.0.1 64) (Ok one.0.1)
    (fault_at (fault.Limit which.Pointer one.0.1) (span_of one.0.0)) p one.2 in
    let both = and_parts (nat_le 1 one.0.1) (nat_le one.0.1 64) two.0 in
    subst (IsWidth tree) (same_ok one.0.1 p two.1)
    (one.0.0, found, le-from_test 1 one.0.1 both.0, le-from_test one.0.1 64 both.1)

is-head : (tree : Tree) (p : ℕ) → IsWidth tree p → head_read tree ≡ Ok p
unfolding width-or-fault
is-head tree p h =
    ap (λ (o : Option (Tree × ℕ)). and_then (or_fault fault.Head (span_of tree) o) width-or-fault) h.1
    ∙ cond-true (nat_le 1 p && nat_le p 64) (Ok p) (Err (fault_at (fault.Limit which.Pointer p) (span_of h.0)))
    (and-both (nat_le 1 p) (nat_le p 64) (le_true 1 p h.2) (le_true p 64 h.3))

not-none : (n : ℕ) → (n == 0) ≡ false → 1 ≤ n
not-none zero h = absurd (cc)
not-none (suc n) h = omega arith

none-not : (n : ℕ) → 1 ≤ n → (n == 0) ≡ false
none-not n h = grind (arith, nat_tests)

goes-by : (b : Bool) (f : SpecFault) (o : Option SpecFault) → cond b (Some f) o ≡ None → (b ≡ false) × (o ≡ None)
goes-by true f o h = absurd (cc)
goes-by false f o h = (refl, h)

some-defined : (f : File) (end : ℕ) → end_fault f end ≡ None → (1 ≤ length f.ops) × (1 ≤ length f.goals)
some-defined f end h =
    let goals : Option SpecFault =
    cond (length f.goals == 0) (Some (fault_at (fault.Limit which.Goals 0) (end, end))) None in
    let one = goes-by (length f.ops == 0) (fault_at (fault.Limit which.Ops 0) (end, end)) goals h in
    let two = goes-by (length f.goals == 0) (fault_at (fault.Limit which.Goals 0) (end, end)) None one.1 in
    (not-none (length f.ops) one.0, not-none (length f.goals) two.0)

defined-some : (f : File) (end : ℕ) → 1 ≤ length f.ops → 1 ≤ length f.goals → end_fault f end ≡ None
defined-some f end ops goals =
    cond-false (length f.ops == 0) (Some (fault_at (fault.Limit which.Ops 0) (end, end)))
    (cond (length f.goals == 0) (Some (fault_at (fault.Limit which.Goals 0) (end, end))) None)
    (none-not (length f.ops) ops)
    ∙ cond-false (length f.goals == 0) (Some (fault_at (fault.Limit which.Goals 0) (end, end))) None
    (none-not (length f.goals) goals)

items-of-file : (bytes : List ℕ) (f : File) (trees : Trees) → AreTrees bytes trees → (ts : List Tree)
    → list_of trees ≡ ts → file_read (length bytes) ts ≡ Ok f → IsFile bytes f
items-of-file bytes f trees are [] e h = absurd (cc)
items-of-file bytes f trees are (head ∷ items) e h =
    let end = length bytes in
    let last : File → Result File SpecFault = λ g. unless (end_fault g end) (Ok g) in
    let one = and_then-ok (head_read head) (λ p. and_then (items_read (start p) items) last) f h in
    let two = and_then-ok (items_read (start one.0) items) last f one.2 in
    let three = unless-ok (end_fault two.0 end) (Ok two.0) f two.2 in
    let same : two.0 ≡ f = same_ok two.0 f three.1 in
    let added = items-add (start one.0) items two.0 two.1 (start-within one.0) in
    let adds : Adds (start one.0) items f = subst (λ (g : File). Adds (start one.0) items g) same added.0 in
    let within = subst IsWithin same added.1 in
    let pointer : f.pointer ≡ one.0 = adds-pointer (start one.0) items f adds in
    let width = subst (IsWidth head) (sym pointer) (head-is head one.0 one.1) in
    let some = some-defined f end (subst (λ (g : File). end_fault g end ≡ None) same three.0) in
    record {
      trees = trees;
      text = are.text;
      spelled = are.spelled;
      nested = are.nested;
      head = head;
      width = width.0;
      items = items;
      parts = e;
      begins = width.1;
      wide = width.2;
      narrow = width.3;
      added = subst (λ p. Adds (start p) items f) (sym pointer) adds;
      names = within.names;
      some_ops = some.0;
      few_ops = within.ops;
      some_goals = some.1;
      few_goals = within.goals;
    }

-- what the walk gives is a file by the grammar
pub read-is-file : (bytes : List ℕ) (f : File) → IsOutcome bytes (Ok f) → IsFile bytes f
read-is-file bytes f (inl x) = absurd (cc)
read-is-file bytes f (inr x) = items-of-file bytes f x.0 x.1 (list_of x.0) refl (sym x.2)

-- and each file by the grammar is what the walk gives
pub file-is-read : (bytes : List ℕ) (f : File) → IsFile bytes f → IsOutcome bytes (Ok f)
file-is-read bytes f h =
    let end = length bytes in
    let last : File → Result File SpecFault = λ g. unless (end_fault g end) (Ok g) in
    let within : IsWithin f = record { names = h.names; ops = h.few_ops; goals = h.few_goals } in
    inr (
      h.trees,
      record { text = h.text; spelled = h.spelled; nested = h.nested },
      sym
          (ap (file_read end) h.parts
          ∙ ap (λ (r : Result ℕ SpecFault). and_then r (λ p. and_then (items_read (start p) h.items) last))
          (is-head h.head f.pointer (h.width, h.begins, h.wide, h.narrow))
          ∙ ap (λ (r : Result File SpecFault). and_then r last) (adds-read (start f.pointer) h.items f h.added within)
          ∙ ap (λ (o : Option SpecFault). unless o (Ok f)) (defined-some f end h.some_ops h.some_goals)),
    )

-- ---- a text is one file at most

-- a text that is trees has no fault of its lists
trees-faultless : (bytes : List ℕ) (trees : Trees) (f : SexpFault) → AreTrees bytes trees → IsFault bytes f → ⊥
trees-faultless bytes trees f are h =
    let forest : Forest = record { items = items_of 0 trees; outermost = places 0 trees } in
    reading-faultless bytes forest f (
      trees,
      record {
        text = are.text;
        spelled = are.spelled;
        nested = are.nested;
        items = refl;
        outermost = refl;
      },
    ) h

-- a text that is a file has no other outcome
pub only-outcome : (bytes : List ℕ) (f : File) (outcome : Result File SpecFault) → IsFile bytes f
    → IsOutcome bytes outcome → outcome ≡ Ok f
only-outcome bytes f outcome h (inl x) =
    absurd (trees-faultless bytes h.trees x.0 (record { text = h.text; spelled = h.spelled; nested = h.nested }) x.1)
only-outcome bytes f outcome h (inr x) = by_outcome (file-is-read bytes f h)
  where
    by_outcome : IsOutcome bytes (Ok f) → outcome ≡ Ok f
    by_outcome (inl y) = absurd (cc)
    by_outcome (inr y) =
        x.2 ∙ ap (λ (ts : Trees). file_read (length bytes) (list_of ts))
        (trees-unique (tokens bytes) x.0 y.0 x.1.spelled y.1.spelled)
        ∙ sym y.2

-- a file that is read is the one that the text is; where a fault is told, the text is none
pub every-file : (bytes : List ℕ) (f g : File) → IsFile bytes f → IsOutcome bytes (Ok g) → g ≡ f
every-file bytes f g h o = same_ok g f (only-outcome bytes f (Ok g) h o)

pub no-fault : (bytes : List ℕ) (f : File) (told : SpecFault) → IsFile bytes f → IsOutcome bytes (Err told) → ⊥
no-fault bytes f told h o = absurd (ok_or_err (only-outcome bytes f (Err told) h o))
  where
    ok_or_err : ◌≡◌ {A = Result File SpecFault} (Err told) (Ok f) → ⊥
    ok_or_err e = cc
