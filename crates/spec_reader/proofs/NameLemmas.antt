-- The names that a definition binds, and those that are defined.
use Rattle.std.proofs.Common.{◌≡◌, ◌∙◌, ℕ, ◌<◌, List, [], ◌∷◌, ◌++◌}
use Rattle.std.proofs.Common.{map, All, refl, sym, ap, Bool, true, false, Contains}
use Rattle.std.specs.Prelude.{◌↔◌, ◌||◌}
use Rattle.std.specs.List.{list_any}
use Rattle.std.specs.Str.{bytes_eq}
use Rattle.std.proofs.lemmas.Bool.{false≢true}
use Rattle.std.proofs.lemmas.List.Elements.{All-append, All-map}
use Rattle.std.proofs.lemmas.List.Folds.{list_any-append}
use Rattle.list_lemmas.proofs.Lookups.{any_name, any-there}
use Rattle.list_lemmas.proofs.Bools.{false_unless}
use Rattle.sexp_read.specs.Tree.{Tree, Word, Branch}
use Rattle.sexp_read.specs.Words.{is_name}
use Rattle.isel_spec.specs.declared.spec.Spec.{Spec}
use Rattle.isel_spec.specs.File as file
use Rattle.isel_spec.specs.File.{operation, goal}
use Rattle.isel_spec.specs.Spec as spec
use Rattle.spec_reader.specs.declared.form.Param as param
use Rattle.spec_reader.specs.Form.{Param, is_name_in, name_of}
use Rattle.spec_reader.specs.Parts.{params_by}
use Rattle.spec_reader.specs.Walk.{defined}

abbrev pub bound : List param.Param → List ℕ
bound ps = map (λ (p : param.Param). p.name) ps

pub bound-trees : (tree : ℕ → Tree) (xs ys : List param.Param) → map tree (bound xs ++ bound ys)
    ≡ map (λ (q : Param). q.name) (params_by tree xs ++ params_by tree ys)
bound-trees tree [] [] = refl
bound-trees tree [] (y ∷ ys) = ap (λ ts. tree y.name ∷ ts) (bound-trees tree [] ys)
bound-trees tree (x ∷ xs) ys = ap (λ ts. tree x.name ∷ ts) (bound-trees tree xs ys)

pub bound-within : (size : ℕ) (xs ys : List param.Param) → All (λ (p : param.Param). p.name < size) xs
    → All (λ (p : param.Param). p.name < size) ys → All (λ item. item < size) (bound xs ++ bound ys)
bound-within size xs ys h k =
    All-append (λ item. item < size) (bound xs) (bound ys)
    (All-map (λ item. item < size) (λ (p : param.Param). p.name) xs h)
    (All-map (λ item. item < size) (λ (p : param.Param). p.name) ys k)

by-test : (b : Bool) (name : List ℕ) (names : List (List ℕ)) → (b ≡ true → Contains names name)
    → (Contains names name → b ≡ true) → b ≡ list_any (bytes_eq name) names
by-test true name names h k = sym (any_name name names (h refl))
by-test false name names h k =
    sym (false_unless (list_any (bytes_eq name) names) (λ e. false≢true (k (any-there name names e))))

pub has-name : (b : Bool) (name : List ℕ) (names : List (List ℕ)) → (b ≡ true) ↔ Contains names name
    → b ≡ list_any (bytes_eq name) names
has-name b name names h = by-test b name names h.0 h.1

pub same-names : {A B : Type 0} (f : A → B) (name_of : B → List ℕ) (first : A → List ℕ) (xs : List A)
    → ((x : A) → name_of (f x) ≡ first x) → map name_of (map f xs) ≡ map first xs
same-names f name_of first [] h = refl
same-names f name_of first (x ∷ xs) h =
    ap (λ n. n ∷ map name_of (map f xs)) (h x) ∙ ap (λ ns. first x ∷ ns) (same-names f name_of first xs h)

pub is-defined : (s : Spec) (name : List ℕ)
    → (list_any (bytes_eq name) (map (λ e. e.0) s.ops) || list_any (bytes_eq name) (map (λ e. e.0) s.goals))
    ≡ list_any (bytes_eq name) (defined (spec.file s))
is-defined s name =
    (λ i. list_any (bytes_eq name) (sym (same-names (operation s.terms) (λ (o : file.Operation). o.name) (λ e. e.0)
    s.ops
    (λ e. refl)) i)
    || list_any (bytes_eq name) (sym (same-names (goal s.terms) (λ (g : file.Goal). g.name) (λ e. e.0) s.goals
    (λ e. refl)) i))
    ∙ sym (list_any-append (bytes_eq name) (map (λ (o : file.Operation). o.name) (map (operation s.terms) s.ops))
    (map (λ (g : file.Goal). g.name) (map (goal s.terms) s.goals)))

pub or-then : (r a b x : Bool) → r ≡ a → r ≡ true → (a || b) ≡ x → r ≡ x
or-then r a b x e t h = t ∙ sym (ap (λ y. y || b) (sym e ∙ t)) ∙ h

pub or-else : (r a q b x : Bool) → r ≡ a → r ≡ false → q ≡ b → (a || b) ≡ x → q ≡ x
or-else r a q b x e f k h = k ∙ sym (ap (λ y. y || b) (sym e ∙ f)) ∙ h

pub name-is-name : (tree : Tree) → is_name_in tree ≡ true → is_name (name_of tree) ≡ true
name-is-name (Word first word) h = h
name-is-name (Branch from to members) h = absurd (false≢true h)
