-- The two lists of a rule, and the words of an open claim.
use Rattle.std.proofs.Common.{◌≡◌, ◌∙◌, List, [], ◌∷◌, Option, Some, None, Bool, true, false, ◌&&◌, refl, ap, sym}
use Rattle.std.specs.Prelude.{option_and_then}
use Rattle.std.specs.List.{list_all}
use Rattle.std.specs.Option.{is_some}
use Rattle.list_lemmas.proofs.Bools.{and_left, and_right}
use Rattle.sexp_read.specs.Tree.{Tree, Word, Branch, word_of, members_of}
use Rattle.pattern_core.specs.declared.pattern.Src.{Src}
use Rattle.pattern_text.specs.Form.{◌>>=◌, each, RuleForm, NodeForm, node_in, source_in, rule_of, word_in}
use Rattle.pattern_text.specs.Small.{AreParts}
use Rattle.pattern_text.proofs.EachLemmas.{each-formed}

-- the form of a rule by what its two trees have as members
rule_over : Option (List Tree) → Option (List Tree) → Option RuleForm
rule_over nodes results = do
  ns ← nodes >>= each node_in
  ss ← results >>= each source_in
  Some (record { nodes = ns; results = ss })

abbrev formed : List Tree → List Tree → Bool
formed ns rs = list_all (λ t. is_some (node_in t)) ns && list_all (λ t. is_some (source_in t)) rs

pub rule-parts : (a b : Tree) (ns rs : List Tree) (test : Bool) → Some ns ≡ members_of a → Some rs ≡ members_of b
    → test ≡ formed ns rs → test ≡ true → AreParts (rule_of a b) ns rs
unfolding rule_over
rule-parts a b ns rs test h k t e =
    record {
      same = sym (ap (λ o. rule_over o (Some rs)) h ∙ ap (λ o. rule_over (members_of a) o) k);
      nodes_formed = each-formed node_in ns ∙ and_left _ _ (sym t ∙ e);
      results_formed = each-formed source_in rs
          ∙ and_right (list_all (λ t. is_some (node_in t)) ns) (list_all (λ t. is_some (source_in t)) rs) (sym t ∙ e);
    }

abbrev made : List NodeForm → List Src → RuleForm
made ns ss = record { nodes = ns; results = ss }

none-of : (o : Option (List NodeForm)) (p : Option (List Src)) → (is_some o && is_some p) ≡ false
    → option_and_then (λ ns. option_and_then (λ ss. Some (made ns ss)) p) o ≡ None
none-of None p e = refl
none-of (Some ns) None e = refl
none-of (Some ns) (Some ss) e = absurd (cc)

pub rule-none : (a b : Tree) (ns rs : List Tree) (test : Bool) → Some ns ≡ members_of a → Some rs ≡ members_of b
    → test ≡ formed ns rs → test ≡ false → rule_of a b ≡ None
unfolding rule_over
rule-none a b ns rs test h k t e =
    sym (ap (λ o. rule_over o (Some rs)) h ∙ ap (λ o. rule_over (members_of a) o) k)
    ∙ none-of (each node_in ns) (each source_in rs)
    ((λ i. each-formed node_in ns i && each-formed source_in rs i) ∙ sym t ∙ e)

-- words are given back as they are
word-same : (t : Tree) → is_some (word_of t) ≡ true → word_in t ≡ Some t
word-same (Word first bytes) e = refl
word-same (Branch from to members) e = absurd (cc)

word-none : (t : Tree) → is_some (word_of t) ≡ false → word_in t ≡ None
word-none (Word first bytes) e = absurd (cc)
word-none (Branch from to members) e = refl

pub words-same : (ts : List Tree) → list_all (λ t. is_some (word_of t)) ts ≡ true → each word_in ts ≡ Some ts
words-same [] e = refl
words-same (t ∷ ts) e =
    let first = word-same t (and_left _ _ e) in
    let rest = words-same ts (and_right (is_some (word_of t)) _ e) in
    (λ i. option_and_then (λ y. option_and_then (λ ys. Some (y ∷ ys)) (rest i)) (first i))

words-end : (o : Option Tree) → option_and_then (λ y. option_and_then (λ ys. Some (y ∷ ys)) None) o ≡ None
words-end None = refl
words-end (Some t) = refl

pub words-none : (ts : List Tree) → list_all (λ t. is_some (word_of t)) ts ≡ false → each word_in ts ≡ None
words-none [] e = absurd (cc)
words-none (t ∷ ts) e = by (is_some (word_of t)) refl (words-none ts)
  where
    by : (b : Bool) → is_some (word_of t) ≡ b
        → (list_all (λ t. is_some (word_of t)) ts ≡ false → each word_in ts ≡ None) → each word_in (t ∷ ts) ≡ None
    by true h rest =
        ap (λ o. option_and_then (λ y. option_and_then (λ ys. Some (y ∷ ys)) o) (word_in t))
        (rest (ap (λ b. b && list_all (λ t. is_some (word_of t)) ts) (sym h) ∙ e)) ∙ words-end (word_in t)
    by false h rest = ap (λ o. option_and_then (λ y. option_and_then (λ ys. Some (y ∷ ys)) (each word_in ts)) o)
        (word-none t h)
