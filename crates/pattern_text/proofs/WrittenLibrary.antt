-- The text of a library claims what the answers say, where they are answers for the goals of a sound file.
use Rattle.std.proofs.Common.{◌≡◌, ◌∙◌, ℕ, zero, suc, ◌+◌, ◌<◌, ◌≤◌, inl, inr, List, [], ◌∷◌, length, Ok}
use Rattle.std.proofs.Common.{Some, refl, sym, ap, subst, arith, slice_get, All}
use Rattle.std.specs.List.{list_all}
use Rattle.list_lemmas.proofs.Bools.{and_parts}
use Rattle.list_lemmas.proofs.Lists.{Each, append-nothing}
use Rattle.list_lemmas.proofs.Lookups.{each_from_places, list_all_at, some_at}
use Rattle.list_lemmas.proofs.Orders.{ordered-from_AllPairs}
use Rattle.sexp_read.specs.Token.{tokens}
use Rattle.sexp_read.specs.Tree.{Tree, flatten, list_of, depth}
use Rattle.bv_terms.specs.Table.{IsTable}
use Rattle.isel_spec.specs.declared.spec.Spec.{Spec}
use Rattle.isel_spec.specs.File.{File, Operation, Goal}
use Rattle.isel_spec.specs.Spec.{file}
use Rattle.pattern_core.specs.declared.pattern.Pattern.{Pattern}
use Rattle.pattern_core.specs.declared.pattern.GoalAnswer.{GoalAnswer}
use Rattle.pattern_text.specs.declared.claimed.Claimed.{Claimed}
use Rattle.pattern_text.specs.Text.{library_text}
use Rattle.pattern_text.specs.Rules.{is_small_source, is_small_node}
use Rattle.pattern_text.specs.Reading.{size_of, IsLibrary}
use Rattle.pattern_text.specs.RoundTrip.{state_of, rules_of, undecided_of, IsRuleFor, IsUndecided, IsAnswerFor}
use Rattle.pattern_text.specs.RoundTrip.{AreAnswersFor, AreAnswers, rule_total, SayTheSame, IsReadBack}
use Rattle.pattern_text.proofs.NamedPlaces.{ops-named, goals-named}
use Rattle.pattern_text.proofs.WrittenTrees.{AreTreesOf, Headed}
use Rattle.pattern_text.proofs.WrittenNodes.{IsNodeOf}
use Rattle.pattern_text.proofs.WrittenRules.{IsPatternText, IsMultiText}
use Rattle.pattern_text.proofs.WrittenAnswers.{IsAnswerText, AreAnswerTexts, AnswersRead, IsHeadTree, library-written}
use Rattle.pattern_text.proofs.SmallPatterns as small
use Rattle.pattern_text.proofs.ReadBack.{IsRuleOf, IsAnswerAt, AreAnswersAt, all-claims}

-- ---- answers for the goals of a sound file

each-of-all : {A : Type 0} (P Q : A → Type 0) → ((x : A) → P x → Q x) → (xs : List A) → All P xs → Each Q xs
each-of-all P Q more [] h = tt
each-of-all P Q more (x ∷ xs) h =
    (more x (h zero x (omega arith)), each-of-all P Q more xs (λ k d l. h (suc k) d (omega arith)))

rule-of : (s : Spec) (place size : ℕ) (g : Goal) → IsTable s.terms → slice_get (file s).goals place ≡ Some g
    → (p : Pattern) → IsRuleFor (file s) g size p → IsRuleOf (file s) place size p
rule-of s place size g table there p r = record {
  pattern = record {
    small = small.is-small s place g table there p r.well_formed;
    goal = g;
    in_file = there;
    well_formed = r.well_formed;
    of_size = r.of_size;
  };
  canonical = r.canonical;
}

pattern-of : (s : Spec) (place size : ℕ) (g : Goal) → IsTable s.terms → slice_get (file s).goals place ≡ Some g
    → (p : Pattern) → IsRuleFor (file s) g size p → IsPatternText (file s) p
pattern-of s place size g table there p r =
    let parts = and_parts (list_all is_small_node p.nodes) (list_all is_small_source p.results)
    (small.is-small s place g table there p r.well_formed) in
    record {
      nodes = each_from_places (IsNodeOf (file s)) p.nodes (λ k n e.
          let fit = r.well_formed.nodes k n e in
          record {
            operation = fit.operation;
            in_file = fit.in_file;
            small = list_all_at is_small_node p.nodes k n parts.0 e;
          });
      results = parts.1;
    }

multi-of : (f : File) (multi : List ℕ) → IsUndecided f multi → IsMultiText f multi
multi-of f multi u = record {
  few = u.few;
  rising = u.rising;
  in_file = each-of-all (λ op. op < length f.ops) (λ op. (o : Operation) × (slice_get f.ops op ≡ Some o))
      (λ op l. some_at f.ops op l) multi u.in_file;
}

answer-text : (s : Spec) (place : ℕ) (g : Goal) → IsTable s.terms → slice_get (file s).goals place ≡ Some g
    → (a : GoalAnswer) → IsAnswerFor (file s) g a → IsAnswerText (file s) a
answer-text s place g table there a h =
    let size : ℕ = size_of (state_of a) in
    record {
      size = h.size;
      rules = each-of-all (IsRuleFor (file s) g size) (IsPatternText (file s))
          (pattern-of s place size g table there) (rules_of a) h.rules;
      undecided = each-of-all (IsUndecided (file s)) (IsMultiText (file s)) (multi-of (file s)) (undecided_of a)
          h.undecided;
    }

answer-at : (s : Spec) (place : ℕ) (g : Goal) → IsTable s.terms → slice_get (file s).goals place ≡ Some g
    → (a : GoalAnswer) → IsAnswerFor (file s) g a → IsAnswerAt (file s) place a
answer-at s place g table there a h =
    let size : ℕ = size_of (state_of a) in
    record {
      rules = each-of-all (IsRuleFor (file s) g size) (IsRuleOf (file s) place size)
          (rule-of s place size g table there) (rules_of a) h.rules;
      distinct = ordered-from_AllPairs (λ p q. p ≡ q → ⊥) (rules_of a) h.distinct;
    }

-- what is known of answers for the goals from a place on
record AreKnown (f : File) (place : ℕ) (gs : List Goal) (answers : List GoalAnswer) : Type 0 where
  texts : AreAnswerTexts f place gs answers
  rules : AreAnswersAt f place answers

are-known : (s : Spec) → IsTable s.terms → (place : ℕ) (gs : List Goal) (answers : List GoalAnswer)
    → ((i : ℕ) (g : Goal) → slice_get gs i ≡ Some g → slice_get (file s).goals (place + i) ≡ Some g)
    → AreAnswersFor (file s) gs answers → AreKnown (file s) place gs answers
are-known s table place [] [] at h = record { texts = tt; rules = tt }
are-known s table place [] (a ∷ answers) at h = absurd h
are-known s table place (g ∷ gs) [] at h = absurd h
are-known s table place (g ∷ gs) (a ∷ answers) at h =
    let same : place + 0 ≡ place = omega arith in
    let there : slice_get (file s).goals place ≡ Some g =
    subst (λ n. slice_get (file s).goals n ≡ Some g) same (at zero g refl) in
    let rest = are-known s table (place + 1) gs answers (λ i x e.
    let next : place + suc i ≡ place + 1 + i = omega arith in
    subst (λ n. slice_get (file s).goals n ≡ Some x) next (at (suc i) x e)) h.1 in
    record {
      texts = ((goals-named s place g there, answer-text s place g table there a h.0), rest.texts);
      rules = (answer-at s place g table there a h.0, rest.rules);
    }

-- ---- what the text claims

-- the claims of the items
record Claims (f : File) (answers : List GoalAnswer) (items : List Tree) : Type 0 where
  claims : List Claimed
  library : IsLibrary f (length (library_text f answers)) items (Ok claims)
  same : SayTheSame f (library_text f answers) 0 answers claims

items-claim : (f : File) (answers : List GoalAnswer) → AreAnswersAt f 0 answers → rule_total answers ≤ 65536
    → (items : List Tree) → Headed IsHeadTree (AnswersRead f 0 f.goals answers 17) items → Claims f answers items
items-claim f answers is few [] h = absurd h
items-claim f answers is few (head ∷ items) h =
    let read = all-claims f answers items h.1 is few in
    record { claims = read.more; library = inl (h.0, read.read); same = read.same }

text-claims : (f : File) (answers : List GoalAnswer) → AreAnswersAt f 0 answers → rule_total answers ≤ 65536
    → AreTreesOf 4 (Headed IsHeadTree (AnswersRead f 0 f.goals answers 17)) 0 (library_text f answers)
    → IsReadBack f answers (library_text f answers)
text-claims f answers is few w =
    let bytes : List ℕ = library_text f answers in
    let read = items-claim f answers is few (list_of w.trees) w.known in
    let shallow : depth w.trees ≤ 4 = w.shallow in (
      read.claims,
      inr (
        w.trees,
        record {
          text = w.spelled.text;
          spelled = ap tokens (sym (append-nothing bytes)) ∙ w.spelled.spelled [] tt
              ∙ append-nothing (flatten w.trees);
          nested = omega (arith, shallow);
        },
        read.library,
      ),
      read.same,
    )

pub written-is-read : (s : Spec) (answers : List GoalAnswer) → IsTable s.terms → AreAnswers (file s) answers
    → IsReadBack (file s) answers (library_text (file s) answers)
written-is-read s answers table are =
    let known = are-known s table 0 (file s).goals answers (λ i g e.
    let same : i ≡ 0 + i = omega arith in subst (λ n. slice_get (file s).goals n ≡ Some g) same e) are.each in
    text-claims (file s) answers known.rules are.few
    (library-written (file s) (ops-named s) answers known.texts)
