-- Names in scope and their nodes.
use Rattle.std.proofs.Common.{◌-◌, ◌≤◌, if◌then◌else◌, append_assoc}
use Rattle.std.proofs.lemmas.Option.{none-some, same_Some}
use Rattle.sexp_read.specs.Words.{is_name}
use Rattle.term_text.specs.declared.scope.Scope as declared
use Rattle.std.proofs.lemmas.Map.Entries.{All-lookup}
use Rattle.std.proofs.Common.{◌≡◌, ℕ, ◌+◌, ◌<◌, List, [], ◌∷◌, ◌++◌, length, get_or, take, reverse, refl, sym, ap}
use Rattle.std.proofs.Common.{◌∙◌, Option, Some, None, option_map, Bool, true, false, subst, arith, IfSome}
use Rattle.std.specs.List.{flat_map}
use Rattle.std.specs.Option.{option_or}
use Rattle.std.specs.Str.{bytes_eq}
use Rattle.std.proofs.lemmas.List.{take_more, reverse-append}
use Rattle.collections.specs.Named.{named}
use Rattle.bv_terms.specs.declared.op.TermId.{TermId}
use Rattle.bv_terms.specs.Table.{Table, term_at}
use Rattle.term_text.specs.Reading.{in_scope}
use Rattle.term_text.specs.Scope.{Names, terms_under, AreNamesIn, names_of, KeepsNames}

-- ---- the value under a name

named-append : {A : Type 0} (xs ys : List (List ℕ × A)) (word : List ℕ)
    → named (xs ++ ys) word ≡ option_or (named xs word) (named ys word)
named-append [] ys word = refl
named-append (e ∷ xs) ys word = by (bytes_eq word e.0) refl (named-append xs ys word)
  where
    by : (b : Bool) → bytes_eq word e.0 ≡ b → named (xs ++ ys) word ≡ option_or (named xs word) (named ys word)
        → named (e ∷ (xs ++ ys)) word ≡ option_or (named (e ∷ xs) word) (named ys word)
    by true h rest = rw h refl
    by false h rest = rw h rest

abbrev pub joined : List Names → Names
joined maps = flat_map (λ names. names) maps

-- by the names of one place and those of the places before it
pub innermost-more : (maps : List Names) (i : ℕ) (d : Names) (word : List ℕ) → i < length maps
    → named (joined (reverse (take (i + 1) maps))) word
    ≡ option_or (named (get_or maps i d) word) (named (joined (reverse (take i maps))) word)
innermost-more maps i d word h =
    ap (λ ms. named (joined (reverse ms)) word) (take_more maps i d h)
    ∙ ap (λ ms. named (joined ms) word) (reverse-append (take i maps) (get_or maps i d ∷ []))
    ∙ named-append (get_or maps i d) (joined (reverse (take i maps))) word

pub innermost-at : (maps : List Names) (k : ℕ) (d : Names) (word : List ℕ) → 0 < k → k ≤ length maps
    → named (joined (reverse (take k maps))) word
    ≡ option_or (named (get_or maps (k - 1) d) word) (named (joined (reverse (take (k - 1) maps))) word)
innermost-at maps k d word pos le =
    let e : k ≡ k - 1 + 1 = omega arith in
    ap (λ k. named (joined (reverse (take k maps))) word) e ∙ innermost-more maps (k - 1) d word (omega arith)

-- ---- names with nodes, and with their terms

named-under : (table : Table) (names : Names) (word : List ℕ)
    → named (terms_under table names) word ≡ option_map (term_at table) (named names word)
named-under table [] word = refl
named-under table (e ∷ names) word = by (bytes_eq word e.0) refl (named-under table names word)
  where
    by : (b : Bool) → bytes_eq word e.0 ≡ b
        → named (terms_under table names) word ≡ option_map (term_at table) (named names word)
        → named (terms_under table (e ∷ names)) word ≡ option_map (term_at table) (named (e ∷ names) word)
    by true h rest = rw h refl
    by false h rest = rw h rest

-- the names of two lists after each other
pub named-both : (table : Table) (inner outer : Names) (word : List ℕ)
    → named (terms_under table (inner ++ outer)) word
    ≡ option_map (term_at table) (option_or (named inner word) (named outer word))
named-both table inner outer word =
    named-under table (inner ++ outer) word ∙ ap (option_map (term_at table)) (named-append inner outer word)

pub named-within : (table : Table) (inner outer : Names) (word : List ℕ) → AreNamesIn table (inner ++ outer)
    → IfSome (option_or (named inner word) (named outer word)) (λ at. at.0 < length table.nodes)
named-within table inner outer word all =
    subst (λ o. IfSome o (λ (at : TermId). at.0 < length table.nodes)) (named-append inner outer word)
    (All-lookup (λ (at : TermId). at.0 < length table.nodes) (bytes_eq word) (inner ++ outer) all)

-- ---- names that are bound for a while

pub KeepsNames-further : (a b c : declared.Scope) → KeepsNames a b → KeepsNames b c → KeepsNames a c
KeepsNames-further a b c h k = (k.0 ∙ h.0, k.1 ∙ h.1)

pub names_of-kept : (old new : declared.Scope) → KeepsNames old new → names_of new ≡ names_of old
names_of-kept old new h = λ i. joined (reverse (h.0 i)) ++ h.1 i

-- with a map more the names of that map are before the others
pub names_of-pushed : (old new : declared.Scope) (bound : Names) → new.bound.items ≡ old.bound.items ++ bound ∷ []
    → new.outer.now ≡ old.outer.now → names_of new ≡ bound ++ names_of old
names_of-pushed old new bound h k =
    (λ i. joined (reverse (h i)) ++ k i)
    ∙ ap (λ maps. joined maps ++ old.outer.now) (reverse-append old.bound.items (bound ∷ []))
    ∙ append_assoc bound (joined (reverse old.bound.items)) old.outer.now

-- ---- a name that is looked up

pub innermost-found : (maps : List Names) (k : ℕ) (m : Names) (word : List ℕ) (o : Option TermId) → 0 < k
    → k ≤ length maps → m ≡ get_or maps (k - 1) m → o ≡ named m word
    → named (joined (reverse (take k maps))) word
    ≡ option_or o (named (joined (reverse (take (k - 1) maps))) word)
innermost-found maps k m word o pos le is found =
    innermost-at maps k m word pos le
    ∙ ap (λ ns. option_or (named ns word) (named (joined (reverse (take (k - 1) maps))) word)) (sym is)
    ∙ ap (λ o. option_or o (named (joined (reverse (take (k - 1) maps))) word)) (sym found)

pub name-parts : (b : Bool) (name word : List ℕ)
    → ◌≡◌ {A = Option (List ℕ)} (Some name) (if b then Some word else None) → (b ≡ true) × (name ≡ word)
name-parts true name word h = (refl, same_Some name word h)
name-parts false name word h = absurd (none-some name (sym h))

pub find-is : (table : Table) (inner outer : Names) (word name : List ℕ) (o : Option TermId)
    → Some name ≡ (if is_name word then Some word else None) → o ≡ option_or (named inner name) (named outer name)
    → option_map (term_at table) o ≡ in_scope (terms_under table (inner ++ outer)) word
find-is table inner outer word name o h e =
    let parts = name-parts (is_name word) name word h in
    rw parts.0
    (ap (option_map (term_at table)) e ∙ sym (named-both table inner outer name)
    ∙ ap (named (terms_under table (inner ++ outer))) parts.1)

pub find-within : (table : Table) (inner outer : Names) (name : List ℕ) (o : Option TermId)
    → o ≡ option_or (named inner name) (named outer name) → AreNamesIn table (inner ++ outer)
    → IfSome o (λ at. at.0 < length table.nodes)
find-within table inner outer name o e all =
    subst (λ o. IfSome o (λ (at : TermId). at.0 < length table.nodes)) (sym e)
    (named-within table inner outer name all)
