-- The names that a definition binds, each with an input, one by one.
use Rattle.std.proofs.Common.{◌≡◌, ◌∙◌, ℕ, ◌+◌, ◌<◌, List, [], ◌∷◌, ◌++◌, length, map, Option, Some, None, true, false}
use Rattle.std.proofs.Common.{Bool, refl, sym, ap, append_assoc, All}
use Rattle.std.specs.Prelude.{if◌then◌else◌, Contains}
use Rattle.std.specs.List.{list_any, AllByRecursion}
use Rattle.std.specs.Option.{option_or}
use Rattle.std.specs.Str.{bytes_eq}
use Rattle.std.proofs.lemmas.Bool.{false≢true}
use Rattle.std.proofs.lemmas.List.Elements.{All-nil, All-push, All-append}
use Rattle.std.proofs.lemmas.List.Elements.{All-from_recursion}
use Rattle.list_lemmas.proofs.Lists.{map-push, append-nothing}
use Rattle.list_lemmas.proofs.Lookups.{any_name}
use Rattle.bv_terms.specs.declared.op.Op.TheVariants as op
use Rattle.bv_terms.specs.declared.op.TermId.{TermId}
use Rattle.bv_terms.specs.Term.{Term, Apply}
use Rattle.bv_terms.specs.Term as term
use Rattle.bv_terms.specs.Table.{Table, term_at, Extends}
use Rattle.sexp_read.specs.Tree.{Tree}
use Rattle.term_text.specs.Head.{span_of}
use Rattle.term_text.specs.Build.{StandsFor}
use Rattle.term_text.specs.Scope.{Names, terms_under, AreNamesIn}
use Rattle.term_text.proofs.TermSteps.{under-kept, names-kept}
use Rattle.spec_reader.specs.declared.fault.SpecKind.TheVariants as fault
use Rattle.spec_reader.specs.declared.form.Param as param
use Rattle.spec_reader.specs.declared.form.Parts as parts
use Rattle.spec_reader.specs.Form.{Param, is_name_in, name_of}
use Rattle.spec_reader.specs.Parts.{params_by, parts_by}
use Rattle.spec_reader.specs.Walk.{fault_at, names_fault, name_fault, twice_named, long_name, scope_from}
use Rattle.spec_reader.proofs.FormedLemmas.{IsFormed, IsBound, IsWidth}

-- ---- faults of names

pub both-none : {X : Type 0} (o q : Option X) → option_or o q ≡ None → (o ≡ None) × (q ≡ None)
both-none None q e = (refl, e)
both-none (Some x) q e = cc

pub none-where : {X : Type 0} (b : Bool) (x : X) → (if b then Some x else None) ≡ None → b ≡ false
none-where true x e = cc
none-where false x e = refl

abbrev pub names : Names → List (List ℕ)
names entries = map (λ (e : List ℕ × TermId). e.0) entries

abbrev pub bound : (ℕ → Tree) → List param.Param → List Tree
bound tree ps = map (λ (q : param.Param). tree q.name) ps

-- a name without a fault is new
pub name-new : (earlier : List (List ℕ)) (name : Tree) → name_fault earlier name ≡ None
    → list_any (bytes_eq (name_of name)) earlier ≡ false
name-new earlier name e =
    none-where (list_any (bytes_eq (name_of name)) earlier) (fault_at fault.TwiceNamed (span_of name))
    (both-none (long_name name) (twice_named earlier name) e).1

pub not-there : (name : List ℕ) (names : List (List ℕ)) → list_any (bytes_eq name) names ≡ false
    → Contains names name → ⊥
not-there name names e h = false≢true (sym e ∙ any_name name names h)

-- the text of a word that is a name
pub name-text : (b : Bool) (name word : List ℕ) → Some name ≡ (if b then Some word else None) → name ≡ word
name-text true name word e = cc
name-text false name word e = absurd (cc)

-- ---- names so far

-- The names so far stand for the first inputs, those that are left for the others, and what is left is not bound yet.
pub record HasScope (tree : ℕ → Tree) (all left : List param.Param) (number : ℕ) (table : Table)
    (entries : Names) : Type 0 where
  pub within : AreNamesIn table entries
  pub whole : terms_under table entries ++ scope_from number (params_by tree left) ≡ scope_from 0 (params_by tree all)
  pub free : names_fault (names entries) (bound tree left) ≡ None

pub scope-start : (tree : ℕ → Tree) (all : List param.Param) (table : Table)
    → names_fault [] (bound tree all) ≡ None → HasScope tree all all 0 table []
scope-start tree all table e = record {
  within = All-nil (λ (e : List ℕ × TermId). e.1.0 < length table.nodes);
  whole = refl;
  free = e;
}

-- the next name has no fault, and the others have none after it
next-free : (tree : ℕ → Tree) (all left later : List param.Param) (q : param.Param) (number : ℕ) (table : Table)
    (entries : Names) → HasScope tree all left number table entries → left ≡ q ∷ later
    → (name_fault (names entries) (tree q.name) ≡ None)
    × (names_fault (names entries ++ name_of (tree q.name) ∷ []) (bound tree later) ≡ None)
next-free tree all left later q number table entries has next =
    both-none (name_fault (names entries) (tree q.name))
    (names_fault (names entries ++ name_of (tree q.name) ∷ []) (bound tree later))
    (sym (ap (λ qs. names_fault (names entries) (bound tree qs)) next) ∙ has.free)

pub scope-new : (tree : ℕ → Tree) (all left later : List param.Param) (q : param.Param) (number : ℕ) (table : Table)
    (entries : Names) → HasScope tree all left number table entries → left ≡ q ∷ later
    → list_any (bytes_eq (name_of (tree q.name))) (names entries) ≡ false
scope-new tree all left later q number table entries has next =
    name-new (names entries) (tree q.name) (next-free tree all left later q number table entries has next).0

pub scope-more : (tree : ℕ → Tree) (all left later : List param.Param) (q : param.Param) (number : ℕ)
    (old new : Table) (entries : Names) (at : TermId) → HasScope tree all left number old entries → left ≡ q ∷ later
    → Extends old new → StandsFor new at (Apply (op.Input number q.sort) term.End)
    → HasScope tree all later (number + 1) new (entries ++ (name_of (tree q.name), at) ∷ [])
scope-more tree all left later q number old new entries at has next grown stands =
    let name = name_of (tree q.name) in
    let input = Apply (op.Input number q.sort) term.End in
    let rest = scope_from (number + 1) (params_by tree later) in
    record {
      within = All-push (λ (e : List ℕ × TermId). e.1.0 < length new.nodes) entries (name, at)
          (names-kept old new grown entries has.within) stands.within;
      whole =
          ap (λ es. es ++ rest) (map-push (λ (e : List ℕ × TermId). (e.0, term_at new e.1)) entries (name, at))
          ∙ append_assoc (terms_under new entries) ((name, term_at new at) ∷ []) rest
          ∙ (λ i. under-kept old new grown entries has.within i ++ (name, stands.term i) ∷ rest)
          ∙ sym (ap (λ qs. terms_under old entries ++ scope_from number (params_by tree qs)) next)
          ∙ has.whole;
      free =
          ap (λ ns. names_fault ns (bound tree later))
          (map-push (λ (e : List ℕ × TermId). e.0) entries (name, at))
          ∙ (next-free tree all left later q number old entries has next).1;
    }

pub scope-done : (tree : ℕ → Tree) (all left : List param.Param) (number : ℕ) (table : Table) (entries : Names)
    → HasScope tree all left number table entries → left ≡ []
    → terms_under table entries ≡ scope_from 0 (params_by tree all)
scope-done tree all left number table entries has next =
    sym (append-nothing (terms_under table entries))
    ∙ sym (ap (λ qs. terms_under table entries ++ scope_from number (params_by tree qs)) next)
    ∙ has.whole

-- ---- what a definition binds

pub params-joined : (tree : ℕ → Tree) (xs ys : List param.Param)
    → params_by tree (xs ++ ys) ≡ params_by tree xs ++ params_by tree ys
params-joined tree [] ys = refl
params-joined tree (x ∷ xs) ys = ap (λ qs. record { name = tree x.name; kind = x.kind; sort = x.sort } ∷ qs)
    (params-joined tree xs ys)

names-bound : (tree : ℕ → Tree) (ps : List param.Param)
    → map (λ (q : Param). q.name) (params_by tree ps) ≡ bound tree ps
names-bound tree [] = refl
names-bound tree (p ∷ ps) = ap (λ ts. tree p.name ∷ ts) (names-bound tree ps)

pub bound-trees : (tree : ℕ → Tree) (xs ys : List param.Param)
    → bound tree (xs ++ ys) ≡ map (λ (q : Param). q.name) (params_by tree xs ++ params_by tree ys)
bound-trees tree xs ys =
    sym (names-bound tree (xs ++ ys)) ∙ ap (map (λ (q : Param). q.name)) (params-joined tree xs ys)

abbrev IsNamedBy : (ℕ → Tree) → param.Param → Type 0
IsNamedBy tree q = is_name_in (tree q.name) ≡ true

args-named : (tree : ℕ → Tree) (ps : List param.Param) → AllByRecursion IsBound (params_by tree ps)
    → AllByRecursion (IsNamedBy tree) ps
args-named tree [] h = tt
args-named tree (p ∷ ps) h = (h.0.name, args-named tree ps h.1)

attrs-named : (tree : ℕ → Tree) (ps : List param.Param) → AllByRecursion IsWidth (params_by tree ps)
    → AllByRecursion (IsNamedBy tree) ps
attrs-named tree [] h = tt
attrs-named tree (p ∷ ps) h = (h.0.bound.name, attrs-named tree ps h.1)

-- each name that a definition binds is a name
pub bound-named : (tree : ℕ → Tree) (p : parts.Parts) → IsFormed (parts_by tree p)
    → All (λ (q : param.Param). is_name_in (tree q.name) ≡ true) (p.args.items ++ p.attrs.items)
bound-named tree p formed =
    All-append (IsNamedBy tree) p.args.items p.attrs.items
    (All-from_recursion (IsNamedBy tree) p.args.items (args-named tree p.args.items formed.args))
    (All-from_recursion (IsNamedBy tree) p.attrs.items (attrs-named tree p.attrs.items formed.attrs))
