-- Tables that grow: nodes keep their terms.
use Rattle.std.proofs.Common.{◌≡◌, ℕ, ◌+◌, ◌<◌, ◌≤◌, List, [], ◌∷◌, ◌++◌, length, map, unwrap_or, Result}
use Rattle.std.proofs.Common.{Some, IsSome, refl, sym, ap, ◌∙◌, arith, subst, length-append}
use Rattle.std.proofs.Common.{append_assoc, take, drop, get_or}
use Rattle.std.proofs.lemmas.List.{take-map}
use Rattle.std.proofs.lemmas.List.{drop_more}
use Rattle.std.proofs.lemmas.Option.{slice_get-get_or}
use Rattle.std.specs.List.{AllByRecursion}
use Rattle.std.proofs.lemmas.List.Elements.{recursion_from_All, All-weaker, All-drop}
use Rattle.std.specs.declared.alloc.AllocError.{AllocError}
use Rattle.bv_terms.specs.declared.op.Op.{Op}
use Rattle.bv_terms.specs.declared.op.Op.TheVariants as op
use Rattle.bv_terms.specs.declared.op.TermId.{TermId}
use Rattle.bv_terms.specs.declared.value.Sort.{Sort}
use Rattle.bv_terms.specs.declared.value.Sort.TheVariants as sort
use Rattle.bv_terms.specs.Term.{Term, Then}
use Rattle.bv_terms.specs.WellSorted.{sort_of, sorts_of}
use Rattle.bv_terms.specs.Table.{Table, term_in, operands, terms_from, terms_of, term_at, Extends, IsTable}
use Rattle.bv_terms.proofs.TableLemmas.{terms_from-append, slice_get-terms_from, length-terms_of}
use Rattle.bv_terms.proofs.TermLemmas.{IsSorted-of, sorts_of-some}
use Rattle.bv_terms.proofs.MakeLemmas.{node-sorted, sorts_of-end, sorts_of-then}
use Rattle.list_lemmas.proofs.Lists.{append-nothing, drop-map}
use Rattle.list_lemmas.proofs.Lookups.{map-take-more}
use Rattle.list_lemmas.proofs.Options.{the_some, some-is}
use Rattle.term_text.specs.Written.{operands_of, applied, left_from, right_from, right, left, equation, equations}
use Rattle.term_text.specs.Written.{equations_from, inequation, inequations, first_term}
use Rattle.std.proofs.Common.{◌-◌, zero, suc, replicate}
use Rattle.term_text.specs.Build.{AreNodes, terms_at, sorts_at, IsWellSorted, StandsFor, Builds}

pub operands_of-terms_at : (table : Table) (ids : List TermId)
    → operands (terms_of table) ids ≡ operands_of (terms_at table ids)
operands_of-terms_at table [] = refl
operands_of-terms_at table (at ∷ ids) = ap (Then (term_at table at)) (operands_of-terms_at table ids)

-- ---- a table that grows

pub Extends-itself : (table : Table) → Extends table table
Extends-itself table = record { pointer = refl; more = []; nodes = sym (append-nothing table.nodes) }

pub Extends-further : (a b c : Table) → Extends a b → Extends b c → Extends a c
Extends-further a b c h k = record {
  pointer = k.pointer ∙ h.pointer;
  more = h.more ++ k.more;
  nodes = k.nodes ∙ ap (λ nodes. nodes ++ k.more) h.nodes ∙ append_assoc a.nodes h.more k.more;
}

pub Extends-longer : (old new : Table) → Extends old new → length old.nodes ≤ length new.nodes
Extends-longer old new h = omega (arith, ap length h.nodes, length-append old.nodes h.more)

pub term_at-kept : (old new : Table) → Extends old new → (at : TermId) → at.0 < length old.nodes
    → term_at new at ≡ term_at old at
term_at-kept old new h at within =
    ap (λ nodes. term_in (terms_from [] nodes) at.0) h.nodes
    ∙ ap (λ ts. term_in ts at.0) (terms_from-append [] old.nodes h.more)
    ∙ ap (λ o. unwrap_or o (term_in [] 0))
    (slice_get-terms_from (terms_of old) h.more at.0 (omega (arith, length-terms_of old)))

pub terms_at-kept : (old new : Table) → Extends old new → (ids : List TermId) → AreNodes old ids
    → terms_at new ids ≡ terms_at old ids
terms_at-kept old new h ids all = by ids (recursion_from_All (λ (at : TermId). at.0 < length old.nodes) ids all)
  where
    by : (ids : List TermId) → AllByRecursion (λ (at : TermId). at.0 < length old.nodes) ids
        → terms_at new ids ≡ terms_at old ids
    by [] all = refl
    by (at ∷ ids) all = ap (λ t. t ∷ terms_at new ids) (term_at-kept old new h at all.0)
        ∙ ap (λ ts. term_at old at ∷ ts) (by ids all.1)

pub AreNodes-kept : (old new : Table) → Extends old new → (ids : List TermId) → AreNodes old ids → AreNodes new ids
AreNodes-kept old new h ids all =
    let longer = Extends-longer old new h in
    All-weaker (λ (at : TermId). at.0 < length old.nodes) (λ (at : TermId). at.0 < length new.nodes)
    (λ at lt. omega (arith, longer, lt)) ids all

pub StandsFor-kept : (old new : Table) → Extends old new → (at : TermId) (t : Term) → StandsFor old at t
    → StandsFor new at t
StandsFor-kept old new h at t stands = record {
  within = omega (arith, Extends-longer old new h, stands.within);
  term = term_at-kept old new h at stands.within ∙ stands.term;
}

pub AreNodes-drop : (table : Table) (n : ℕ) (ids : List TermId) → AreNodes table ids → AreNodes table (drop n ids)
AreNodes-drop table n ids all = All-drop (λ (at : TermId). at.0 < length table.nodes) n ids all

-- ---- well-sorted terms have well-sorted parts

abbrev pub HaveSort : ℕ → List Term → Type 0
HaveSort p ts = AllByRecursion (λ t. IsSome (sort_of p t)) ts

operands-sorted : (p : ℕ) (ts : List Term) (ss : List Sort) → sorts_of p (operands_of ts) ≡ Some ss → HaveSort p ts
operands-sorted p [] ss h = tt
operands-sorted p (t ∷ ts) ss h =
    let parts = sorts_of-some p t (operands_of ts) ss h in
    (some-is (sort_of p t) parts.0 parts.3, operands-sorted p ts parts.1 parts.4)

pub parts-sorted : (p : ℕ) (o : Op) (ts : List Term) → IsSome (sort_of p (applied o ts)) → HaveSort p ts
parts-sorted p o ts h =
    let some = the_some (sort_of p (applied o ts)) h in
    let sorted = IsSorted-of p o (operands_of ts) some.0 some.1 in
    operands-sorted p ts sorted.sorts sorted.of_args

pub first-sorted : (p : ℕ) (o : Op) (t : Term) (us : List Term) → IsSome (sort_of p (left_from o t us))
    → IsSome (sort_of p t)
first-sorted p o t [] h = h
first-sorted p o t (u ∷ us) h = (parts-sorted p o (t ∷ u ∷ []) (first-sorted p o (applied o (t ∷ u ∷ [])) us h)).0

pub last-sorted : (p : ℕ) (o : Op) (ts : List Term) (t : Term) → IsSome (sort_of p (right o (ts ++ t ∷ [])))
    → IsSome (sort_of p t)
last-sorted p o [] t h = h
last-sorted p o (u ∷ ts) t h = by u ts h
  where
    by : (u : Term) (ts : List Term) → IsSome (sort_of p (right_from o u (ts ++ t ∷ []))) → IsSome (sort_of p t)
    by u [] h = (parts-sorted p o (u ∷ t ∷ []) h).1.0
    by u (v ∷ ts) h = by v ts (parts-sorted p o (u ∷ right_from o v (ts ++ t ∷ []) ∷ []) h).1.0

-- ---- joining one more

pub terms-more : (table : Table) (ids : List TermId) (i : ℕ) (d : TermId) → i < length ids
    → drop i (terms_at table ids) ≡ term_at table (get_or ids i d) ∷ drop (i + 1) (terms_at table ids)
terms-more table ids i d h =
    drop-map (term_at table) ids i ∙ ap (terms_at table) (drop_more ids i d h)
    ∙ ap (λ ts. term_at table (get_or ids i d) ∷ ts) (sym (drop-map (term_at table) ids (i + 1)))

-- the next term joined to what is joined so far
pub left-more : (old now : Table) → Extends old now → (o : Op) (t : Term) (rest : List TermId) → AreNodes old rest
    → (i : ℕ) (d : TermId) → i < length rest
    → left_from o t (drop i (terms_at old rest))
    ≡ left_from o (applied o (t ∷ term_at now (get_or rest i d) ∷ [])) (drop (i + 1) (terms_at old rest))
left-more old now h o t rest all i d lt =
    ap (left_from o t) (terms-more old rest i d lt)
    ∙ ap (λ u. left_from o (applied o (t ∷ u ∷ [])) (drop (i + 1) (terms_at old rest)))
    (sym (term_at-kept old now h (get_or rest i d) (all i d lt)))

right-last : (o : Op) (ts : List Term) (t u : Term)
    → right o (ts ++ t ∷ u ∷ []) ≡ right o (ts ++ applied o (t ∷ u ∷ []) ∷ [])
right-last o [] t u = refl
right-last o (v ∷ ts) t u = by v ts
  where
    by : (v : Term) (ts : List Term)
        → right_from o v (ts ++ t ∷ u ∷ []) ≡ right_from o v (ts ++ applied o (t ∷ u ∷ []) ∷ [])
    by v [] = refl
    by v (w ∷ ts) = ap (λ r. applied o (v ∷ r ∷ [])) (by w ts)

terms-take : (table : Table) (ids : List TermId) (i : ℕ) (d : TermId) → i < length ids
    → take (i + 1) (terms_at table ids) ≡ take i (terms_at table ids) ++ term_at table (get_or ids i d) ∷ []
terms-take table ids i d h =
    take-map (term_at table) (i + 1) ids
    ∙ map-take-more (term_at table) ids i (get_or ids i d) (slice_get-get_or ids i d h)
    ∙ ap (λ ts. ts ++ term_at table (get_or ids i d) ∷ []) (sym (take-map (term_at table) i ids))

-- the term before what is joined so far joined to it
pub right-more : (old now : Table) → Extends old now → (o : Op) (t : Term) (ids : List TermId) → AreNodes old ids
    → (i k : ℕ) (d : TermId) → i < length ids → i + 1 ≡ k
    → right o (take k (terms_at old ids) ++ t ∷ [])
    ≡ right o (take i (terms_at old ids) ++ applied o (term_at now (get_or ids i d) ∷ t ∷ []) ∷ [])
right-more old now h o t ids all i k d lt next =
    let u = term_at old (get_or ids i d) in
    ap (λ k. right o (take k (terms_at old ids) ++ t ∷ [])) (sym next)
    ∙ ap (λ ts. right o (ts ++ t ∷ [])) (terms-take old ids i d lt)
    ∙ ap (right o) (append_assoc (take i (terms_at old ids)) (u ∷ []) (t ∷ []))
    ∙ right-last o (take i (terms_at old ids)) u t
    ∙ ap (λ u. right o (take i (terms_at old ids) ++ applied o (u ∷ t ∷ []) ∷ []))
    (sym (term_at-kept old now h (get_or ids i d) (all i d lt)))

-- ---- the sorts of nodes

pub sorts_at-is : (table : Table) → IsTable table → (ids : List TermId) → AreNodes table ids
    → sorts_of table.pointer (operands_of (terms_at table ids)) ≡ Some (sorts_at table ids)
sorts_at-is table is ids all = by ids (recursion_from_All (λ (at : TermId). at.0 < length table.nodes) ids all)
  where
    by : (ids : List TermId) → AllByRecursion (λ (at : TermId). at.0 < length table.nodes) ids
        → sorts_of table.pointer (operands_of (terms_at table ids)) ≡ Some (sorts_at table ids)
    by [] all = sorts_of-end table.pointer
    by (at ∷ ids) all =
        let first = node-sorted table is at.0 all.0 in
        sorts_of-then table.pointer (term_at table at) (operands_of (terms_at table ids)) first.0 (sorts_at table ids)
        first.1 (by ids all.1)
        ∙ ap (λ o. Some (unwrap_or o sort.Bool ∷ sorts_at table ids)) (sym first.1)

-- ---- nodes made one after the other

pub IsWellSorted-kept : (old new : Table) → Extends old new → (t : Term) → IsWellSorted old t → IsWellSorted new t
IsWellSorted-kept old new h t sorted = subst (λ p. IsSome (sort_of p t)) (sym h.pointer) sorted

-- a node made after others of a term that is this one
pub Builds-after : (a b c : Table) (made : Result TermId AllocError) (t u : Term) → Extends a b → Builds b c made t
    → t ≡ u → Builds a c made u
Builds-after a b c made t u h builds same = subst (Builds a c made) same
    (record { extends = Extends-further a b c h builds.extends; stands = builds.stands })

pub two-same : (o : Op) (t t' u u' : Term) → t ≡ t' → u ≡ u' → applied o (t ∷ u ∷ []) ≡ applied o (t' ∷ u' ∷ [])
two-same o t t' u u' h k = ap (λ t. applied o (t ∷ u ∷ [])) h ∙ ap (λ u. applied o (t' ∷ u ∷ [])) k

pub three-same : (o : Op) (t t' u u' v v' : Term) → t ≡ t' → u ≡ u' → v ≡ v'
    → applied o (t ∷ u ∷ v ∷ []) ≡ applied o (t' ∷ u' ∷ v' ∷ [])
three-same o t t' u u' v v' h k l =
    ap (λ t. applied o (t ∷ u ∷ v ∷ [])) h ∙ ap (λ u. applied o (t' ∷ u ∷ v ∷ [])) k
    ∙ ap (λ v. applied o (t' ∷ u' ∷ v ∷ [])) l

-- a node made after another, joined to it
pub joined-in : (now mid : Table) → Extends now mid → (o : Op) (before at : TermId) (t : Term)
    → before.0 < length now.nodes → StandsFor mid at t
    → applied o (terms_at mid (before ∷ at ∷ [])) ≡ applied o (term_at now before ∷ t ∷ [])
joined-in now mid h o before at t within stands =
    two-same o (term_at mid before) (term_at now before) (term_at mid at) t (term_at-kept now mid h before within)
    stands.term

-- ---- equations and inequations, one more

pub chain-more : (old now : Table) → Extends old now → (a : Term) (last : TermId) → last.0 < length old.nodes
    → (rest : List TermId) → AreNodes old rest → (i : ℕ) (d : TermId) → i < length rest
    → left_from op.And a (equations_from (term_at old last) (drop i (terms_at old rest)))
    ≡ left_from op.And (applied op.And (a ∷ equation (term_at now last) (term_at now (get_or rest i d)) ∷ []))
    (equations_from (term_at old (get_or rest i d)) (drop (i + 1) (terms_at old rest)))
chain-more old now h a last within rest all i d lt =
    let next = get_or rest i d in
    let left_over = equations_from (term_at old next) (drop (i + 1) (terms_at old rest)) in
    ap (λ ts. left_from op.And a (equations_from (term_at old last) ts)) (terms-more old rest i d lt)
    ∙ ap (λ t. left_from op.And (applied op.And (a ∷ equation t (term_at old next) ∷ [])) left_over)
    (sym (term_at-kept old now h last within))
    ∙ ap (λ u. left_from op.And (applied op.And (a ∷ equation (term_at now last) u ∷ [])) left_over)
    (sym (term_at-kept old now h next (all i d lt)))

pub differ-more : (old now : Table) → Extends old now → (a : Term) (at : TermId) → at.0 < length old.nodes
    → (later : List TermId) → AreNodes old later → (i : ℕ) (d : TermId) → i < length later
    → left_from op.And a (map (inequation (term_at old at)) (drop i (terms_at old later)))
    ≡ left_from op.And (applied op.And (a ∷ inequation (term_at now at) (term_at now (get_or later i d)) ∷ []))
    (map (inequation (term_at old at)) (drop (i + 1) (terms_at old later)))
differ-more old now h a at within later all i d lt =
    let other = get_or later i d in
    let left_over = map (inequation (term_at old at)) (drop (i + 1) (terms_at old later)) in
    ap (λ ts. left_from op.And a (map (inequation (term_at old at)) ts)) (terms-more old later i d lt)
    ∙ ap (λ t. left_from op.And (applied op.And (a ∷ inequation t (term_at old other) ∷ [])) left_over)
    (sym (term_at-kept old now h at within))
    ∙ ap (λ u. left_from op.And (applied op.And (a ∷ inequation (term_at now at) u ∷ [])) left_over)
    (sym (term_at-kept old now h other (all i d lt)))

pub left_from-append : (o : Op) (t : Term) (us vs : List Term)
    → left_from o t (us ++ vs) ≡ left_from o (left_from o t us) vs
left_from-append o t [] vs = refl
left_from-append o t (u ∷ us) vs = left_from-append o (applied o (t ∷ u ∷ [])) us vs

-- two terms and the others
pub terms-two : (table : Table) (ids : List TermId) (d : TermId) → 2 ≤ length ids
    → terms_at table ids
    ≡ term_at table (get_or ids 0 d) ∷ term_at table (get_or ids 1 d) ∷ terms_at table (drop 2 ids)
terms-two table [] d h = absurd (omega arith)
terms-two table (a ∷ []) d h = absurd (omega arith)
terms-two table (a ∷ b ∷ ids) d h = refl

-- the inequations of the first term, then those of the others
pub distinct-first : (table : Table) (ids : List TermId) (d : TermId) → 2 ≤ length ids
    → left op.And (inequations (terms_at table ids))
    ≡ left_from op.And
    (left_from op.And (inequation (term_at table (get_or ids 0 d)) (term_at table (get_or ids 1 d)))
    (map (inequation (term_at table (get_or ids 0 d))) (terms_at table (drop 2 ids))))
    (inequations (drop 1 (terms_at table ids)))
distinct-first table [] d h = absurd (omega arith)
distinct-first table (a ∷ []) d h = absurd (omega arith)
distinct-first table (a ∷ b ∷ ids) d h =
    left_from-append op.And (inequation (term_at table a) (term_at table b))
    (map (inequation (term_at table a)) (terms_at table ids)) (inequations (terms_at table (b ∷ ids)))

pub distinct-more : (old now : Table) → Extends old now → (a : Term) (ids : List TermId) → AreNodes old ids
    → (i : ℕ) (d : TermId) → i < length ids → (later : List TermId) → later ≡ drop (i + 1) ids
    → left_from op.And a (inequations (drop i (terms_at old ids)))
    ≡ left_from op.And (left_from op.And a (map (inequation (term_at now (get_or ids i d))) (terms_at now later)))
    (inequations (drop (i + 1) (terms_at old ids)))
distinct-more old now h a ids all i d lt later e =
    let at = get_or ids i d in
    let rest = drop (i + 1) (terms_at old ids) in
    let nodes = subst (AreNodes old) (sym e) (AreNodes-drop old (i + 1) ids all) in
    let same : rest ≡ terms_at now later =
    drop-map (term_at old) ids (i + 1) ∙ ap (terms_at old) (sym e) ∙ sym (terms_at-kept old now h later nodes) in
    ap (λ ts. left_from op.And a (inequations ts)) (terms-more old ids i d lt)
    ∙ left_from-append op.And a (map (inequation (term_at old at)) rest) (inequations rest)
    ∙ ap (λ t. left_from op.And (left_from op.And a (map (inequation t) rest)) (inequations rest))
    (sym (term_at-kept old now h at (all i d lt)))
    ∙ ap (λ ts. left_from op.And (left_from op.And a (map (inequation (term_at now at)) ts)) (inequations rest)) same

pub chain-start : (table : Table) (ids : List TermId) (d : TermId) → 2 ≤ length ids
    → left op.And (equations (terms_at table ids))
    ≡ left_from op.And (equation (term_at table (get_or ids 0 d)) (term_at table (get_or ids 1 d)))
    (equations_from (term_at table (get_or ids 1 d)) (terms_at table (drop 2 ids)))
chain-start table [] d h = absurd (omega arith)
chain-start table (a ∷ []) d h = absurd (omega arith)
chain-start table (a ∷ b ∷ ids) d h = refl

-- ---- copies, one more

pub first_term-is : (table : Table) (ids : List TermId) (d : TermId) → 0 < length ids
    → first_term (terms_at table ids) ≡ term_at table (get_or ids 0 d)
first_term-is table [] d h = absurd (omega arith)
first_term-is table (a ∷ ids) d h = refl

pub copies-start : (t u : Term) (k : ℕ) → 1 ≤ k → t ≡ u
    → left_from op.Concat t (replicate (k - 1) u) ≡ left op.Concat (replicate k u)
copies-start t u zero h same = absurd (omega arith)
copies-start t u (suc k) h same =
    let e : suc k - 1 ≡ k = omega arith in
    ap (λ n. left_from op.Concat t (replicate n u)) e ∙ ap (λ t. left_from op.Concat t (replicate k u)) same

pub copies-more : (t u v : Term) (k i : ℕ) → i < k → u ≡ v
    → left_from op.Concat t (replicate (k - i) u)
    ≡ left_from op.Concat (applied op.Concat (t ∷ v ∷ [])) (replicate (k - (i + 1)) u)
copies-more t u v k i h same =
    let e : k - i ≡ suc (k - (i + 1)) = omega arith in
    ap (λ n. left_from op.Concat t (replicate n u)) e
    ∙ ap (λ v. left_from op.Concat (applied op.Concat (t ∷ v ∷ [])) (replicate (k - (i + 1)) u)) same

pub copies-end : (t u : Term) (k i : ℕ) → k ≤ i → left_from op.Concat t (replicate (k - i) u) ≡ t
copies-end t u k i h =
    let e : k - i ≡ 0 = omega arith in ap (λ n. left_from op.Concat t (replicate n u)) e
