-- Clauses in one list of literals: their number, one of them, one more at the end, and the first of them.
use Rattle.std.proofs.Common.{◌≡◌, ℕ, zero, suc, ◌+◌, ◌-◌, ◌<◌, ◌≤◌, List, [], ◌∷◌, ◌++◌, refl, sym, ap, ◌∙◌, arith}
use Rattle.std.proofs.Common.{subst, length, take, drop, get_or, slice_get, Some, length-take, length-append, le_refl}
use Rattle.std.proofs.Common.{take-take, take_all}
use Rattle.std.proofs.lemmas.List.{drop-take}
use Rattle.std.proofs.Math.Seq.{take-append_seam, drop-append_seam}
use Rattle.cnf_core.specs.declared.clause.Lit.{Lit}
use Rattle.cnf_core.specs.Resolution.{clause}
use Rattle.cdcl_base.specs.ClauseLists.{clauses_of, AreEnds, start_of}

pub length-clauses_of : (lits : List Lit) (start : ℕ) (ends : List ℕ)
    → length (clauses_of lits start ends) ≡ length ends
length-clauses_of lits start [] = refl
length-clauses_of lits start (end ∷ ends) = ap suc (length-clauses_of lits end ends)

-- where the default of a look-up does not matter
start_of-default : (start other : ℕ) (ends : List ℕ) (number : ℕ) → number < length ends →
    get_or ends number start ≡ get_or ends number other
start_of-default start other [] number h = absurd (omega (arith, h))
start_of-default start other (end ∷ ends) zero h = refl
start_of-default start other (end ∷ ends) (suc number) h = start_of-default start other ends number (omega (arith, h))

start_of-later : (end start : ℕ) (ends : List ℕ) (number : ℕ) → number < length ends →
    start_of end ends number ≡ get_or (end ∷ ends) number start
start_of-later end start ends zero h = refl
start_of-later end start ends (suc number) h = start_of-default end start ends number (omega (arith, h))

pub clause_at : (lits : List Lit) (start : ℕ) (ends : List ℕ) (number d : ℕ) → number < length ends →
    slice_get (clauses_of lits start ends) number ≡ Some (clause (take (get_or ends number d - start_of start ends
    number)
    (drop (start_of start ends number) lits)))
clause_at lits start [] number d h = absurd (omega (arith, h))
clause_at lits start (end ∷ ends) zero d h = refl
clause_at lits start (end ∷ ends) (suc number) d h =
    clause_at lits end ends number d (omega (arith, h))
    ∙ ap (λ n. Some (clause (take (get_or ends number d - n) (drop n lits))))
    (start_of-later end start ends number (omega (arith, h)))

-- ---- the places

last-after : (start : ℕ) (ends : List ℕ) (last : ℕ) → AreEnds start ends last → start ≤ last
last-after start [] last h = omega (arith, h)
last-after start (end ∷ ends) last h = let later = last-after end ends last h.1 in omega (arith, h.0, later)

pub ends_at : (start : ℕ) (ends : List ℕ) (last number d : ℕ) → AreEnds start ends last → number < length ends →
    (start_of start ends number ≤ get_or ends number d) × (get_or ends number d ≤ last)
ends_at start [] last number d h lt = absurd (omega (arith, lt))
ends_at start (end ∷ ends) last zero d h lt = (h.0, last-after end ends last h.1)
ends_at start (end ∷ ends) last (suc number) d h lt =
    let rest = ends_at end ends last number d h.1 (omega (arith, lt)) in
    (subst (λ n. n ≤ get_or ends number d) (start_of-later end start ends number (omega (arith, lt))) rest.0, rest.1)

pub start_within : (start : ℕ) (ends : List ℕ) (last number : ℕ) → AreEnds start ends last → number ≤ length ends →
    start_of start ends number ≤ last
start_within start ends last zero h le = last-after start ends last h
start_within start ends last (suc number) h le = (ends_at start ends last number start h (omega (arith, le))).1

pub AreEnds-take : (start : ℕ) (ends : List ℕ) (last count : ℕ) → AreEnds start ends last → count ≤ length ends →
    AreEnds start (take count ends) (start_of start ends count)
AreEnds-take start ends last zero h le = refl
AreEnds-take start [] last (suc count) h le = absurd (omega (arith, le))
AreEnds-take start (end ∷ ends) last (suc count) h le = (
  h.0,
  by count le (AreEnds-take end ends last count h.1 (omega (arith, le))),
)
  where
    by : (count : ℕ) → suc count ≤ length (end ∷ ends) → AreEnds end (take count ends) (start_of end ends count) →
        AreEnds end (take count ends) (get_or (end ∷ ends) count start)
    by zero le rest = rest
    by (suc count) le rest =
        subst (AreEnds end (take (suc count) ends)) (start_of-default end start ends count (omega (arith, le))) rest

pub AreEnds-push : (start : ℕ) (ends : List ℕ) (last end : ℕ) → AreEnds start ends last → last ≤ end →
    AreEnds start (ends ++ end ∷ []) end
AreEnds-push start [] last end h le = (omega (arith, h, le), refl)
AreEnds-push start (e ∷ ends) last end h le = (h.0, AreEnds-push e ends last end h.1 le)

-- ---- the clauses at the front

part-front : (lits : List Lit) (start end count : ℕ) → start ≤ end → end ≤ count →
    take (end - start) (drop start (take count lits)) ≡ take (end - start) (drop start lits)
part-front lits start end count le h =
    let whole : count ≡ start + (count - start) = omega (arith, le, h) in
    ap (λ n. take (end - start) (drop start (take n lits))) whole
    ∙ ap (take (end - start)) (drop-take start (count - start) lits)
    ∙ take-take (end - start) (count - start) (drop start lits) (omega (arith, h))

pub clauses-front : (lits : List Lit) (start : ℕ) (ends : List ℕ) (last count : ℕ) → AreEnds start ends last →
    last ≤ count → clauses_of (take count lits) start ends ≡ clauses_of lits start ends
clauses-front lits start [] last count h le = refl
clauses-front lits start (end ∷ ends) last count h le =
    let within = last-after end ends last h.1 in
    λ i. clause (part-front lits start end count h.0 (omega (arith, within, le)) i)
    ∷ clauses-front lits end ends last count h.1 le i

pub clauses-take : (lits : List Lit) (start : ℕ) (ends : List ℕ) (count : ℕ) →
    clauses_of lits start (take count ends) ≡ take count (clauses_of lits start ends)
clauses-take lits start ends zero = refl
clauses-take lits start [] (suc count) = refl
clauses-take lits start (end ∷ ends) (suc count) =
    ap (λ cs. clause (take (end - start) (drop start lits)) ∷ cs) (clauses-take lits end ends count)

pub clauses-pushed : (lits : List Lit) (start : ℕ) (ends : List ℕ) (last end : ℕ) → AreEnds start ends last →
    clauses_of lits start (ends ++ end ∷ []) ≡
    clauses_of lits start ends ++ clause (take (end - last) (drop last lits)) ∷ []
clauses-pushed lits start [] last end h = ap (λ n. clause (take (end - n) (drop n lits)) ∷ []) h
clauses-pushed lits start (e ∷ ends) last end h =
    ap (λ cs. clause (take (e - start) (drop start lits)) ∷ cs) (clauses-pushed lits e ends last end h.1)

added-part : (lits added : List Lit) →
    take (length (lits ++ added) - length lits) (drop (length lits) (lits ++ added)) ≡ added
added-part lits added =
    let size : length (lits ++ added) - length lits ≡ length added = omega (arith, length-append lits added) in
    ap (take (length (lits ++ added) - length lits)) (drop-append_seam lits added)
    ∙ ap (λ n. take n added) size ∙ take_all (length added) added (le_refl (length added))

-- one more clause at the end
pub clauses-more : (lits added : List Lit) (ends : List ℕ) → AreEnds 0 ends (length lits) →
    clauses_of (lits ++ added) 0 (ends ++ length (lits ++ added) ∷ []) ≡ clauses_of lits 0 ends ++ clause added ∷ []
clauses-more lits added ends h =
    clauses-pushed (lits ++ added) 0 ends (length lits) (length (lits ++ added)) h
    ∙ ap (λ c. clauses_of (lits ++ added) 0 ends ++ clause c ∷ []) (added-part lits added)
    ∙ ap (λ cs. cs ++ clause added ∷ [])
    (sym (clauses-front (lits ++ added) 0 ends (length lits) (length lits) h (le_refl (length lits)))
    ∙ ap (λ xs. clauses_of xs 0 ends) (take-append_seam lits added))

-- the first clauses
pub clauses-fewer : (lits : List Lit) (ends : List ℕ) (count : ℕ) → AreEnds 0 ends (length lits) →
    count ≤ length ends →
    clauses_of (take (start_of 0 ends count) lits) 0 (take count ends) ≡ take count (clauses_of lits 0 ends)
clauses-fewer lits ends count h le =
    clauses-front lits 0 (take count ends) (start_of 0 ends count) (start_of 0 ends count)
    (AreEnds-take 0 ends (length lits) count h le) (le_refl (start_of 0 ends count))
    ∙ clauses-take lits 0 ends count

pub ends-fewer : (lits : List Lit) (ends : List ℕ) (count : ℕ) → AreEnds 0 ends (length lits) → count ≤ length ends →
    AreEnds 0 (take count ends) (length (take (start_of 0 ends count) lits))
ends-fewer lits ends count h le =
    let within = start_within 0 ends (length lits) count h le in
    let size : length (take (start_of 0 ends count) lits) ≡ start_of 0 ends count =
    omega (arith, length-take (start_of 0 ends count) lits, within) in
    subst (AreEnds 0 (take count ends)) (sym size) (AreEnds-take 0 ends (length lits) count h le)

pub pushed : (old new added : List Lit) (ends ends' : List ℕ) → AreEnds 0 ends (length old) → new ≡ old ++ added →
    ends' ≡ ends ++ length new ∷ [] →
    AreEnds 0 ends' (length new) × (clauses_of new 0 ends' ≡ clauses_of old 0 ends ++ clause added ∷ [])
pushed old new added ends ends' h e f = (
  subst (λ es. AreEnds 0 es (length new)) (sym f)
      (AreEnds-push 0 ends (length old) (length new) h (omega (arith, ap length e, length-append old added))),
  subst (λ es. clauses_of new 0 es ≡ clauses_of old 0 ends ++ clause added ∷ []) (sym f)
      (subst (λ ls. clauses_of ls 0 (ends ++ length ls ∷ []) ≡ clauses_of old 0 ends ++ clause added ∷ []) (sym e)
      (clauses-more old added ends h)),
)
