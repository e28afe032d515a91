-- The steps of a definition that is read, and of a file.
use Rattle.std.proofs.Common.{◌≡◌, ◌∙◌, ℕ, ◌+◌, ◌<◌, ◌≤◌, List, [], ◌∷◌, length, map, get_or, drop, Option, Some, None}
use Rattle.std.proofs.Common.{Result, Ok, Err, refl, sym, ap}
use Rattle.std.proofs.lemmas.List.{drop_all}
use Rattle.std.specs.Option.{option_or}
use Rattle.bv_terms.specs.Term.{Term}
use Rattle.sexp_read.specs.Tree.{Tree}
use Rattle.term_text.specs.Head.{Span, span_of}
use Rattle.isel_spec.specs.declared.spec.Spec.{Spec}
use Rattle.isel_spec.specs.File.{File, operation, goal}
use Rattle.isel_spec.specs.Spec.{file}
use Rattle.spec_reader.specs.declared.fault.SpecFault.{SpecFault}
use Rattle.spec_reader.specs.declared.fault.SpecKind.TheVariants as fault
use Rattle.spec_reader.specs.Form.{Param, Parts, parts_in}
use Rattle.spec_reader.specs.Walk.{fault_at, and_then, unless, or_fault, first_fault, count_fault, defined, name_fault}
use Rattle.spec_reader.specs.Walk.{limit_fault, names_fault, params_of, scope_from, definition_fault, results_read}
use Rattle.spec_reader.specs.Walk.{results_fault, with_definition, definition_read, item_read, items_read, head_read}
use Rattle.spec_reader.specs.Walk.{end_fault, file_read}
use Rattle.spec_reader.proofs.ResultLemmas.{next-item}

-- ---- steps

pub unless-some : {A : Type 0} (o : Option SpecFault) (r : Result A SpecFault) (e : SpecFault) → o ≡ Some e
    → unless o r ≡ Err e
unless-some o r e h = ap (λ x. unless x r) h

pub unless-none : {A : Type 0} (o : Option SpecFault) (r : Result A SpecFault) → o ≡ None → unless o r ≡ r
unless-none o r h = ap (λ x. unless x r) h

pub and-then-err : {A B : Type 0} (r : Result A SpecFault) (next : A → Result B SpecFault) (e : SpecFault)
    → r ≡ Err e → and_then r next ≡ Err e
and-then-err r next e h = ap (λ x. and_then x next) h

pub and-then-ok : {A B : Type 0} (r : Result A SpecFault) (next : A → Result B SpecFault) (a : A) → r ≡ Ok a
    → and_then r next ≡ next a
and-then-ok r next a h = ap (λ x. and_then x next) h

-- ---- the faults before the terms

or-none : (o : Option SpecFault) → option_or o None ≡ o
or-none None = refl
or-none (Some e) = refl

or-all-none : (o q : Option SpecFault) → option_or o q ≡ None → (o ≡ None) × (q ≡ None)
or-all-none None q h = (refl, h)
or-all-none (Some e) q h = absurd (cc)

-- the first of four faults, one by one
pub first-of-four : (a b c d : Option SpecFault) (e : SpecFault) → a ≡ Some e
    → Some e ≡ first_fault (a ∷ b ∷ c ∷ d ∷ [])
first-of-four a b c d e h = ap (λ x. first_fault (x ∷ b ∷ c ∷ d ∷ [])) (sym h)

pub second-of-four : (a b c d : Option SpecFault) (e : SpecFault) → a ≡ None → b ≡ Some e
    → Some e ≡ first_fault (a ∷ b ∷ c ∷ d ∷ [])
second-of-four a b c d e h k = λ i. first_fault (sym h i ∷ sym k i ∷ c ∷ d ∷ [])

pub third-of-four : (a b c d : Option SpecFault) (e : SpecFault) → a ≡ None → b ≡ None → c ≡ Some e
    → Some e ≡ first_fault (a ∷ b ∷ c ∷ d ∷ [])
third-of-four a b c d e h k l = λ i. first_fault (sym h i ∷ sym k i ∷ sym l i ∷ d ∷ [])

pub last-of-four : (a b c d o : Option SpecFault) → a ≡ None → b ≡ None → c ≡ None → o ≡ d
    → o ≡ first_fault (a ∷ b ∷ c ∷ d ∷ [])
last-of-four a b c d o h k l m =
    m ∙ sym (or-none d) ∙ (λ i. first_fault (sym h i ∷ sym k i ∷ sym l i ∷ d ∷ []))

-- where nothing is wrong, nothing is wrong with the names
pub no-names-fault : (f : File) (span : Span) (parts : Parts) → definition_fault f span parts ≡ None
    → names_fault [] (map (λ (p : Param). p.name) (params_of parts)) ≡ None
no-names-fault f span parts h =
    let names = names_fault [] (map (λ (p : Param). p.name) (params_of parts)) in
    let first = or-all-none (count_fault f parts span)
    (first_fault (name_fault (defined f) parts.name ∷ limit_fault parts span ∷ names ∷ [])) h in
    let second = or-all-none (name_fault (defined f) parts.name)
    (first_fault (limit_fault parts span ∷ names ∷ [])) first.1 in
    let third = or-all-none (limit_fault parts span) (first_fault (names ∷ [])) second.1 in
    sym (or-none names) ∙ third.1

-- ---- a definition

abbrev results_of : File → Parts → Result (List Term) SpecFault
results_of f parts = results_read f.pointer (scope_from 0 (params_of parts)) parts.results

pub definition-wrong : (f : File) (span : Span) (parts : Parts) (e : SpecFault) → definition_fault f span parts ≡ Some e
    → definition_read f span parts ≡ Err e
definition-wrong f span parts e h = unless-some (definition_fault f span parts) _ e h

pub results-wrong : (f : File) (span : Span) (parts : Parts) (e : SpecFault) → definition_fault f span parts ≡ None
    → results_of f parts ≡ Err e → definition_read f span parts ≡ Err e
results-wrong f span parts e none h =
    unless-none (definition_fault f span parts) _ none ∙ and-then-err (results_of f parts) _ e h

shaped : (f : File) (span : Span) (parts : Parts) (ts : List Term) → definition_fault f span parts ≡ None
    → results_of f parts ≡ Ok ts
    → definition_read f span parts ≡ unless (results_fault parts ts span) (Ok (with_definition f parts ts))
shaped f span parts ts none h =
    unless-none (definition_fault f span parts) _ none ∙ and-then-ok (results_of f parts) _ ts h

pub shape-wrong : (f : File) (span : Span) (parts : Parts) (ts : List Term) (e : SpecFault)
    → definition_fault f span parts ≡ None → results_of f parts ≡ Ok ts → results_fault parts ts span ≡ Some e
    → definition_read f span parts ≡ Err e
shape-wrong f span parts ts e none h k =
    shaped f span parts ts none h
    ∙ unless-some (results_fault parts ts span) (Ok (with_definition f parts ts)) e k

pub definition-is : (f : File) (span : Span) (parts : Parts) (ts : List Term) (more : File)
    → definition_fault f span parts ≡ None → results_of f parts ≡ Ok ts → results_fault parts ts span ≡ None
    → more ≡ with_definition f parts ts → definition_read f span parts ≡ Ok more
definition-is f span parts ts more none h k is =
    shaped f span parts ts none h
    ∙ unless-none (results_fault parts ts span) (Ok (with_definition f parts ts)) k
    ∙ ap Ok (sym is)

-- ---- an item

pub item-wrong : (f : File) (tree : Tree) (span : Span) → span ≡ span_of tree → parts_in tree ≡ None
    → item_read f tree ≡ Err (fault_at fault.Head span)
item-wrong f tree span e h =
    ap (λ o. and_then (or_fault fault.Head (span_of tree) o) (definition_read f (span_of tree))) h
    ∙ ap (λ s. Err (fault_at fault.Head s)) (sym e)

pub item-is : (f : File) (tree : Tree) (span : Span) (parts : Parts) → span ≡ span_of tree
    → parts_in tree ≡ Some parts → item_read f tree ≡ definition_read f span parts
item-is f tree span parts e h =
    ap (λ o. and_then (or_fault fault.Head (span_of tree) o) (definition_read f (span_of tree))) h
    ∙ ap (λ s. definition_read f s parts) (sym e)

-- ---- items

pub items-next : (f more : File) (tree : ℕ → Tree) (items : List ℕ) (i : ℕ) (all : Result File SpecFault)
    → i < length items → items_read f (map tree (drop i items)) ≡ all
    → item_read f (tree (get_or items i 0)) ≡ Ok more → items_read more (map tree (drop (i + 1) items)) ≡ all
items-next f more tree items i all lt so read =
    sym (ap (items_read f) (next-item tree items i lt)
    ∙ and-then-ok (item_read f (tree (get_or items i 0))) (λ g. items_read g (map tree (drop (i + 1) items))) more read)
    ∙ so

pub items-stop : (f : File) (tree : ℕ → Tree) (items : List ℕ) (i : ℕ) (all : Result File SpecFault) (e : SpecFault)
    → i < length items → items_read f (map tree (drop i items)) ≡ all
    → item_read f (tree (get_or items i 0)) ≡ Err e → all ≡ Err e
items-stop f tree items i all e lt so read =
    sym so
    ∙ ap (items_read f) (next-item tree items i lt)
    ∙ and-then-err (item_read f (tree (get_or items i 0))) (λ g. items_read g (map tree (drop (i + 1) items))) e read

pub items-done : (f : File) (tree : ℕ → Tree) (items : List ℕ) (i : ℕ) (all : Result File SpecFault)
    → length items ≤ i → items_read f (map tree (drop i items)) ≡ all → all ≡ Ok f
items-done f tree items i all le so = sym so ∙ ap (λ xs. items_read f (map tree xs)) (drop_all i items le)

-- ---- a file

abbrev pub empty_file : ℕ → File
empty_file p = record { pointer = p; ops = []; goals = [] }

pub new-file : (s : Spec) (p : ℕ) → s.pointer ≡ p → s.ops ≡ [] → s.goals ≡ [] → file s ≡ empty_file p
new-file s p pointer ops goals =
    λ i. record { pointer = pointer i; ops = map (operation s.terms) (ops i); goals = map (goal s.terms) (goals i) }

pub head-wrong : (end : ℕ) (head : Tree) (items : List Tree) (e : SpecFault) → head_read head ≡ Err e
    → file_read end (head ∷ items) ≡ Err e
head-wrong end head items e h = and-then-err (head_read head) _ e h

pub items-wrong : (end p : ℕ) (head : Tree) (items : List Tree) (e : SpecFault) → head_read head ≡ Ok p
    → items_read (empty_file p) items ≡ Err e → file_read end (head ∷ items) ≡ Err e
items-wrong end p head items e h k =
    and-then-ok (head_read head) _ p h ∙ and-then-err (items_read (empty_file p) items) _ e k

pub file-ends : (end p : ℕ) (head : Tree) (items : List Tree) (f : File) → head_read head ≡ Ok p
    → items_read (empty_file p) items ≡ Ok f → file_read end (head ∷ items) ≡ unless (end_fault f end) (Ok f)
file-ends end p head items f h k =
    and-then-ok (head_read head) _ p h ∙ and-then-ok (items_read (empty_file p) items) _ f k
