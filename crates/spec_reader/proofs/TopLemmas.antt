-- The items of a text that stand in no list, and what the text is by them.
use Rattle.std.proofs.Common.{◌≡◌, ◌∙◌, ℕ, ◌<◌, List, [], ◌∷◌, length, map, All, sym, ap, Result, Ok, Err}
use Rattle.std.proofs.Common.{◌⊎◌, inl, inr}
use Rattle.std.specs.Prelude.{MatchResult}
use Rattle.std.proofs.lemmas.List.Elements.{All-nil, All-cons}
use Rattle.sexp_read.specs.declared.forest.Forest.{Forest}
use Rattle.sexp_read.specs.declared.forest.Item.{Item}
use Rattle.sexp_read.specs.Tree.{Trees, End, Then}
use Rattle.sexp_read.specs.Forest.{IsReading, DenoteAll, tree_at}
use Rattle.sexp_read.proofs.ForestLemmas.{forest-denotes, denotes-within}
use Rattle.sexp_read.proofs.TreeAtLemmas.{outermost-trees}
use Rattle.isel_spec.specs.declared.spec.Spec.{Spec}
use Rattle.isel_spec.specs.File.{File}
use Rattle.isel_spec.specs.Spec.{file}
use Rattle.spec_reader.specs.declared.fault.SpecFault.{SpecFault}
use Rattle.spec_reader.specs.declared.fault.SpecKind.TheVariants as fault
use Rattle.spec_reader.specs.Outcome.{IsOutcome}
use Rattle.spec_reader.specs.Walk.{file_read}

all-within : (bytes : List ℕ) (items : List Item) (numbers : List ℕ) (trees : Trees)
    → DenoteAll bytes items numbers trees → All (λ item. item < length items) numbers
all-within bytes items [] End d = All-nil (λ item. item < length items)
all-within bytes items [] (Then tree trees) d = absurd d
all-within bytes items (n ∷ ns) End d = absurd d
all-within bytes items (n ∷ ns) (Then tree trees) d =
    All-cons (λ item. item < length items) n ns (denotes-within bytes items n tree d.0)
    (all-within bytes items ns trees d.1)

pub top-within : (bytes : List ℕ) (forest : Forest) → IsReading bytes forest
    → All (λ item. item < length forest.items) forest.outermost
top-within bytes forest r =
    all-within bytes forest.items forest.outermost r.0 (forest-denotes bytes r.0 forest r.1)

top-outcome : (bytes : List ℕ) (forest : Forest) → IsReading bytes forest → (outcome : Result File SpecFault)
    → file_read (length bytes) (map (tree_at bytes forest.items) forest.outermost) ≡ outcome → IsOutcome bytes outcome
top-outcome bytes forest r outcome e =
    inr (
      r.0,
      record { text = r.1.text; spelled = r.1.spelled; nested = r.1.nested },
      sym e ∙ ap (file_read (length bytes)) (outermost-trees bytes r.0 forest r.1),
    )

-- what the walk over the trees answers is what the text is
pub read-outcome : (bytes : List ℕ) (forest : Forest) (top : List ℕ) (result : Result Spec SpecFault)
    → IsReading bytes forest → top ≡ forest.outermost
    → MatchResult result
    (λ spec. file_read (length bytes) (map (tree_at bytes forest.items) top) ≡ Ok (file spec))
    (λ f. (f.kind ≡ fault.NoMemory)
    ⊎ (file_read (length bytes) (map (tree_at bytes forest.items) top) ≡ Err f))
    → MatchResult result (λ spec. IsOutcome bytes (Ok (file spec)))
    (λ f. (f.kind ≡ fault.NoMemory) ⊎ IsOutcome bytes (Err f))
read-outcome bytes forest top (Ok spec) r same e =
    top-outcome bytes forest r (Ok (file spec))
    (ap (λ items. file_read (length bytes) (map (tree_at bytes forest.items) items)) (sym same) ∙ e)
read-outcome bytes forest top (Err f) r same (inl e) = inl e
read-outcome bytes forest top (Err f) r same (inr e) =
    inr (top-outcome bytes forest r (Err f)
    (ap (λ items. file_read (length bytes) (map (tree_at bytes forest.items) items)) (sym same) ∙ e))
