-- Some rules and open claims, as items and as their trees.
use Rattle.std.proofs.Common.{◌≡◌, ◌∙◌, ℕ, List, Option, Some, None, Bool, true, false, refl, ap, sym, map, take, drop}
use Rattle.std.specs.List.{list_all, prefix_len}
use Rattle.std.proofs.lemmas.List.{take-map}
use Rattle.list_lemmas.proofs.Lists.{drop-map}
use Rattle.sexp_read.specs.Tree.{Tree}
use Rattle.pattern_text.specs.declared.claimed.State.TheVariants as state
use Rattle.pattern_text.specs.Form.{where_true}
use Rattle.pattern_text.specs.Items.{ClaimForm, is_rule, is_open, partial_of}

abbrev made : Tree → ℕ → List Tree → List Tree → ClaimForm
made name size rules opens = record { name = name; state = state.Partial size; rules = rules; opens = opens }

-- where this many rules are in front
abbrev partial_at : Tree → ℕ → List Tree → ℕ → Option ClaimForm
partial_at name size ts count =
    where_true (list_all is_open (drop count ts)) (made name size (take count ts) (drop count ts))

pub where-yes : {A : Type 0} (b : Bool) (a : A) → b ≡ true → where_true b a ≡ Some a
where-yes true a e = refl
where-yes false a e = absurd (cc)

pub where-no : {A : Type 0} (b : Bool) (a : A) → b ≡ false → where_true b a ≡ None
where-no true a e = absurd (cc)
where-no false a e = refl

parted : (tree : ℕ → Tree) (rest opens : List ℕ) (count : ℕ) → opens ≡ drop count rest
    → map tree opens ≡ drop count (map tree rest)
parted tree rest opens count o = ap (map tree) o ∙ sym (drop-map tree rest count)

pub partial-yes : (tree : ℕ → Tree) (name : Tree) (size : ℕ) (rest opens : List ℕ) (count : ℕ) (test : Bool)
    → count ≡ prefix_len is_rule (map tree rest) → opens ≡ drop count rest → test ≡ list_all is_open (map tree opens)
    → test ≡ true
    → Some (made name size (map tree (take count rest)) (map tree opens)) ≡ partial_of name size (map tree rest)
partial-yes tree name size rest opens count test e o t h =
    (λ i. Some (made name size (sym (take-map tree count rest) i) (parted tree rest opens count o i)))
    ∙ sym (where-yes (list_all is_open (drop count (map tree rest))) _
    (ap (list_all is_open) (sym (parted tree rest opens count o)) ∙ sym t ∙ h))
    ∙ ap (partial_at name size (map tree rest)) e

pub partial-no : (tree : ℕ → Tree) (name : Tree) (size : ℕ) (rest opens : List ℕ) (count : ℕ) (test : Bool)
    → count ≡ prefix_len is_rule (map tree rest) → opens ≡ drop count rest → test ≡ list_all is_open (map tree opens)
    → test ≡ false → None ≡ partial_of name size (map tree rest)
partial-no tree name size rest opens count test e o t h =
    sym (where-no (list_all is_open (drop count (map tree rest))) _
    (ap (list_all is_open) (sym (parted tree rest opens count o)) ∙ sym t ∙ h))
    ∙ ap (partial_at name size (map tree rest)) e
