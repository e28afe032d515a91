-- Names that are bound once, looked at from the first to the last.
use Rattle.std.proofs.Common.{◌≡◌, ℕ, List, [], ◌∷◌, ◌++◌, map, Bool, true, false, cond, not, ◌&&◌, ◌||◌, Option, Some}
use Rattle.std.proofs.Common.{None, refl, sym, ap, ◌∙◌, option_and_then}
use Rattle.std.specs.Prelude.{bytes_eq, is_some, unwrap_or, if◌then◌else◌}
use Rattle.std.specs.List.{list_all, list_any}
use Rattle.std.specs.Option.{option_or, option_map_or}
use Rattle.std.proofs.lemmas.Bool.{false≢true}
use Rattle.std.proofs.lemmas.Slice.Eq.{bytes_eq-Decides}
use Rattle.list_lemmas.proofs.Bools.{and_right, same_test}
use Rattle.list_lemmas.proofs.Options.{cond-some}
use Rattle.sexp_read.specs.Words.{is_name}
use Rattle.sexp_read.specs.Tree.{Tree, word_of}
use Rattle.term_text.specs.declared.fault.TermFault.{TermFault}
use Rattle.term_text.specs.declared.fault.TermKind.TheVariants.{Unknown}
use Rattle.term_text.specs.Head.{fault_at, span_of}
use Rattle.term_text.specs.Reading.{pair_of, bound_word, word_fault, names_fault, differ}

-- no name is one of those before it, nor of these
abbrev pub differ_after : List (List ℕ) → List (List ℕ) → Bool
differ_after seen [] = true
differ_after seen (name ∷ names) = not (list_any (bytes_eq name) seen) && differ_after (seen ++ name ∷ []) names

abbrev none_in : List (List ℕ) → List (List ℕ) → Bool
none_in seen [] = true
none_in seen (name ∷ names) = not (list_any (bytes_eq name) seen) && none_in seen names

any-more : (f : List ℕ → Bool) (seen : List (List ℕ)) (n : List ℕ)
    → list_any f (seen ++ n ∷ []) ≡ (list_any f seen || f n)
any-more f [] n = or-false (f n)
  where
    or-false : (b : Bool) → (b || false) ≡ b
    or-false true = refl
    or-false false = refl
any-more f (m ∷ seen) n = ap (λ b. f m || b) (any-more f seen n) ∙ or-move (f m) (list_any f seen) (f n)
  where
    or-move : (a b c : Bool) → (a || (b || c)) ≡ ((a || b) || c)
    or-move true b c = refl
    or-move false b c = refl

other-way : (m n : List ℕ) → bytes_eq m n ≡ bytes_eq n m
other-way m n = same_test (bytes_eq m n) (bytes_eq n m)
    (λ e. (bytes_eq-Decides n m).1 (sym ((bytes_eq-Decides m n).0 e)))
    (λ e. (bytes_eq-Decides m n).1 (sym ((bytes_eq-Decides n m).0 e)))

four : (a b c d : Bool) → (not (a || b) && (c && not d)) ≡ ((not a && c) && not (b || d))
four true b c d = refl
four false true true d = refl
four false true false d = refl
four false false true d = refl
four false false false d = refl

none-more : (seen : List (List ℕ)) (n : List ℕ) (names : List (List ℕ))
    → none_in (seen ++ n ∷ []) names ≡ (none_in seen names && not (list_any (bytes_eq n) names))
none-more seen n [] = refl
none-more seen n (m ∷ names) =
    ap (λ b. not b && none_in (seen ++ n ∷ []) names) (any-more (bytes_eq m) seen n)
    ∙ ap (λ b. not (list_any (bytes_eq m) seen || bytes_eq m n) && b) (none-more seen n names)
    ∙ four (list_any (bytes_eq m) seen) (bytes_eq m n) (none_in seen names) (list_any (bytes_eq n) names)
    ∙ ap (λ b. (not (list_any (bytes_eq m) seen) && none_in seen names) && not (b || list_any (bytes_eq n) names))
    (other-way m n)

regroup : (a b c d : Bool) → (a && ((b && c) && d)) ≡ ((a && b) && (c && d))
regroup true true c d = refl
regroup true false c d = refl
regroup false b c d = refl

differ_after-is : (seen names : List (List ℕ)) → differ_after seen names ≡ (none_in seen names && differ names)
differ_after-is seen [] = refl
differ_after-is seen (n ∷ names) =
    ap (λ b. not (list_any (bytes_eq n) seen) && b) (differ_after-is (seen ++ n ∷ []) names)
    ∙ ap (λ b. not (list_any (bytes_eq n) seen) && (b && differ names)) (none-more seen n names)
    ∙ regroup (not (list_any (bytes_eq n) seen)) (none_in seen names) (not (list_any (bytes_eq n) names))
    (differ names)

none-in-nothing : (names : List (List ℕ)) → none_in [] names ≡ true
none-in-nothing [] = refl
none-in-nothing (n ∷ names) = none-in-nothing names

differ_after-nothing : (names : List (List ℕ)) → differ_after [] names ≡ differ names
differ_after-nothing names = differ_after-is [] names ∙ ap (λ b. b && differ names) (none-in-nothing names)

-- ---- the bindings that are left

abbrev pub words_of : List Tree → List (List ℕ)
words_of trees = map (λ b. unwrap_or (bound_word b) []) trees

-- after names, bindings are left, and this says whether all of the names differ
pub record Left (seen : List (List ℕ)) (trees : List Tree) (answer : Bool) : Type 0 where
  pub shaped : list_all (λ b. is_some (bound_word b)) trees ≡ true
  pub named : names_fault trees ≡ None
  pub same : differ_after seen (words_of trees) ≡ answer

pub left-start : (trees : List Tree) → list_all (λ b. is_some (bound_word b)) trees ≡ true → names_fault trees ≡ None
    → Left [] trees (differ (words_of trees))
left-start trees s n = record { shaped = s; named = n; same = differ_after-nothing (words_of trees) }

pub option_or-none : {A : Type 0} (o q : Option A) → option_or o q ≡ None → (o ≡ None) × (q ≡ None)
option_or-none (Some x) q h = absurd (cc)
option_or-none None q h = (refl, h)

pub unless-fault : (b : Bool) (f : TermFault) → cond b None (Some f) ≡ None → b ≡ true
unless-fault true f h = refl
unless-fault false f h = absurd (cc)

named-pair : (o : Option (Tree × Tree)) (b : Bool)
    → (is_some (option_and_then (λ (pair : Tree × Tree). word_of pair.0) o) && b) ≡ true → word_fault o ≡ None
    → (word : List ℕ) × (option_and_then (λ (pair : Tree × Tree). word_of pair.0) o ≡ Some word)
    × (is_name word ≡ true)
named-pair None b h n = absurd (false≢true h)
named-pair (Some pair) b h n = by (word_of pair.0) h
    (unless-fault (option_map_or is_name (word_of pair.0) true) (fault_at Unknown (span_of pair.0)) n)
  where
    by : (o : Option (List ℕ)) → (is_some o && b) ≡ true → option_map_or is_name o true ≡ true
        → (word : List ℕ) × (o ≡ Some word) × (is_name word ≡ true)
    by None h e = absurd (false≢true h)
    by (Some word) h e = (word, refl, e)

-- the next binding has a name
pub left-name : (seen : List (List ℕ)) (tree : Tree) (trees : List Tree) (answer : Bool)
    → Left seen (tree ∷ trees) answer
    → (word : List ℕ) × (bound_word tree ≡ Some word) × (is_name word ≡ true)
left-name seen tree trees answer l =
    named-pair (pair_of tree) (list_all (λ b. is_some (bound_word b)) trees) l.shaped
    (option_or-none (word_fault (pair_of tree)) (names_fault trees) l.named).0

next : (seen : List (List ℕ)) (tree : Tree) (trees : List Tree) (answer any : Bool) (word : List ℕ)
    → Left seen (tree ∷ trees) answer → bound_word tree ≡ Some word → list_any (bytes_eq word) seen ≡ any
    → (not any && differ_after (seen ++ word ∷ []) (words_of trees)) ≡ answer
next seen tree trees answer any word l w a =
    ap (λ (b : Bool). not b && differ_after (seen ++ word ∷ []) (words_of trees)) (sym a)
    ∙ ap (λ (o : Option (List ℕ)). not (list_any (bytes_eq (unwrap_or o [])) seen)
    && differ_after (seen ++ unwrap_or o [] ∷ []) (words_of trees)) (sym w)
    ∙ l.same

-- a name that stands before
pub left-twice : (seen : List (List ℕ)) (tree : Tree) (trees : List Tree) (answer : Bool) (word : List ℕ)
    → Left seen (tree ∷ trees) answer → bound_word tree ≡ Some word → list_any (bytes_eq word) seen ≡ true
    → false ≡ answer
left-twice seen tree trees answer word l w a = next seen tree trees answer true word l w a

pub left-more : (seen : List (List ℕ)) (tree : Tree) (trees : List Tree) (answer : Bool) (word : List ℕ)
    → Left seen (tree ∷ trees) answer → bound_word tree ≡ Some word → list_any (bytes_eq word) seen ≡ false
    → Left (seen ++ word ∷ []) trees answer
left-more seen tree trees answer word l w a = record {
  shaped = and_right (is_some (bound_word tree)) (list_all (λ b. is_some (bound_word b)) trees) l.shaped;
  named = (option_or-none (word_fault (pair_of tree)) (names_fault trees) l.named).1;
  same = next seen tree trees answer false word l w a;
}

pub left-end : (seen : List (List ℕ)) (answer : Bool) → Left seen [] answer → true ≡ answer
left-end seen answer l = l.same

-- a bound word that is a name is the bound word
pub bound-is : (o : Option (List ℕ)) (name : List ℕ)
    → option_and_then (λ (word : List ℕ). if is_name word then Some word else None) o ≡ Some name → o ≡ Some name
bound-is None name h = absurd (cc)
bound-is (Some word) name h = cond-some (is_name word) (Some word) name h
