-- One rule more.
use Rattle.std.proofs.Common.{◌≡◌, ◌∙◌, ℕ, ◌+◌, ◌<◌, List, [], ◌∷◌, ◌++◌, length, map, drop, get_or, Result, Ok}
use Rattle.std.proofs.Common.{Err, refl}
use Rattle.std.proofs.Common.{sym, ap, subst, arith, suc, inl, inr, ◌⊎◌}
use Rattle.std.proofs.Math.Seq.{drop-cons}
use Rattle.std.proofs.lemmas.List.{length-append}
use Rattle.std.proofs.lemmas.List.Elements.{All-append, All-cons, All-nil}
use Rattle.sexp_read.specs.Tree.{Tree}
use Rattle.isel_spec.specs.File.{File}
use Rattle.pattern_core.specs.declared.pattern.Pattern.{Pattern}
use Rattle.pattern_text.specs.declared.fault.LibFault.{LibFault}
use Rattle.pattern_text.specs.declared.fault.LibKind.TheVariants as fault
use Rattle.pattern_text.specs.Rules.{IsPatternOf, IsRule, AreRules}
use Rattle.pattern_text.specs.Outcomes.{IsOutcomeOr}
use Rattle.pattern_text.specs.Small.{IsSoFar}

pub left-at : (tree : ℕ → Tree) (items : List ℕ) (i : ℕ) → i < length items
    → map tree (drop i items) ≡ tree (get_or items i 0) ∷ map tree (drop (i + 1) items)
left-at tree items i l =
    let next : suc i ≡ i + 1 = omega arith in
    ap (map tree) (drop-cons items i 0 l ∙ (λ j. get_or items i 0 ∷ drop (next j) items))

goes-on : (f : File) (k size before : ℕ) (done : List Pattern) (t : Tree) (ts all : List Tree) (p : Pattern)
    → IsSoFar f k size before done (t ∷ ts) all → IsRule f k size (before + length done) done t (Ok p)
    → (outcome : Result (List Pattern) LibFault) → AreRules f k size before (done ++ p ∷ []) ts outcome
    → AreRules f k size before [] all outcome
goes-on f k size before done t ts all p so rule outcome rest = so.goes_on outcome (inl (p, rule, rest))

pub one-more : (f : File) (k size before : ℕ) (tree : ℕ → Tree) (items : List ℕ) (i : ℕ) (done new : List Pattern)
    (p : Pattern) → i < length items → IsSoFar f k size before done (map tree (drop i items)) (map tree items)
    → IsRule f k size (before + length done) done (tree (get_or items i 0)) (Ok p) → IsPatternOf f k size p
    → before + length done < 65536 → new ≡ done ++ p ∷ []
    → IsSoFar f k size before new (map tree (drop (i + 1) items)) (map tree items)
one-more f k size before tree items i done new p l so rule of few e =
    let all : List Tree = map tree items in
    let here : IsSoFar f k size before done (tree (get_or items i 0) ∷ map tree (drop (i + 1) items)) all =
    subst (λ ts. IsSoFar f k size before done ts all) (left-at tree items i l) so in
    let long : length (done ++ p ∷ []) ≡ length done + 1 = length-append done (p ∷ []) in
    subst (λ ps. IsSoFar f k size before ps (map tree (drop (i + 1) items)) all) (sym e) (record {
      goes_on = goes-on f k size before done (tree (get_or items i 0)) (map tree (drop (i + 1) items)) all p here rule;
      listed = All-append (IsPatternOf f k size) done (p ∷ []) so.listed
          (All-cons (IsPatternOf f k size) p [] of (All-nil (IsPatternOf f k size)));
      few = omega (arith, few, long);
    })

pub stopped : (f : File) (k size before : ℕ) (tree : ℕ → Tree) (items : List ℕ) (i : ℕ) (done : List Pattern)
    (e : LibFault) → i < length items → IsSoFar f k size before done (map tree (drop i items)) (map tree items)
    → IsOutcomeOr (IsRule f k size (before + length done) done (tree (get_or items i 0))) (Err e)
    → (e.kind ≡ fault.NoMemory) ⊎ AreRules f k size before [] (map tree items) (Err e)
stopped f k size before tree items i done e l so (inl n) = inl n
stopped f k size before tree items i done e l so (inr h) =
    let here : IsSoFar f k size before done (tree (get_or items i 0) ∷ map tree (drop (i + 1) items)) (map tree items) =
    subst (λ ts. IsSoFar f k size before done ts (map tree items)) (left-at tree items i l) so in
    inr (here.goes_on (Err e) (inr (e, h, refl)))

-- what a call says of the slice that the rules so far are
pub at-done : (f : File) (k size before n : ℕ) (slice done : List Pattern) (t : Tree) (r : Result Pattern LibFault)
    → n ≡ length slice → slice ≡ done → IsOutcomeOr (IsRule f k size (before + n) slice t) r
    → IsOutcomeOr (IsRule f k size (before + length done) done t) r
at-done f k size before n slice done t r e h s =
    subst (λ xs. IsOutcomeOr (IsRule f k size (before + length xs) xs t) r) h
    (subst (λ m. IsOutcomeOr (IsRule f k size (before + m) slice t) r) e s)
