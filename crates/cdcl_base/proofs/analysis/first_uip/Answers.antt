use Rattle.std.proofs.Common.{◌≡◌, ℕ, ◌<◌, true, refl, sym, ap, subst, ◌∙◌, arith, take, take_all, length, le_refl}
use Rattle.std.proofs.lemmas.Option.{slice_get_within}
use Rattle.cdcl_base.specs.Analysis.{Leads, AreMarks, IsFirstPlace, contains_number}
use Rattle.cdcl_base.proofs.MarkLemmas.{first-none}
use Rattle.cdcl_base.proofs.LeadsLemmas.{found_at, found-marked, leads-found}
use Rattle.cdcl_base.proofs.CollectLemmas.{first-there, first-marked, first-earlier, first-alone, last-there}
use Rattle.cdcl_base.proofs.CollectLemmas.{all-within}
use Rattle.cdcl_base.proofs.analysis.first_uip.Goals as goal

pub first_place-first-requires-clause-places : goal.first_place-first-requires-clause-places
first_place-first-requires-clause-places c =
    subst (λ xs. (x : ℕ) → contains_number xs x ≡ true → x < length c.args.places.now) (sym c.as_slice.ensures.value)
    (all-within c.args.lits.now c.args.marks.now c.args.places.now c.args.marked.now.items c.requires.marks
    c.requires.places)

pub unwrap-place-requires : goal.unwrap-place-requires
unwrap-place-requires c =
    let firstly : IsFirstPlace c.args.places.now c.args.level_start (length c.args.lits.now) c.args.marked.now.items
    c.first_place-first.result =
    subst (λ xs. IsFirstPlace c.args.places.now c.args.level_start (length c.args.lits.now) xs
    c.first_place-first.result) c.as_slice.ensures.value
    (c.first_place-first.ensures (length c.args.lits.now)
    (first-none c.args.places.now c.args.level_start (length c.args.lits.now) (length c.args.lits.now) refl)) in
    let some = c.requires.marked in
    let there =
    first-there c.args.lits.now c.args.marks.now c.args.places.now c.args.marked.now.items c.args.level_start
    c.first_place-first.result some.0 some.1 c.requires.marks c.requires.places firstly some.2 some.3 some.4 in
    last-there c.args.marks.now c.args.lits.now c.first_place-first.result (length c.args.lits.now) there.0
    c.last_marked.result there.1 there.2
    (slice_get_within c.args.lits.now c.first_place-first.result there.0 there.1) c.last_marked.ensures.none

pub loop-first-init : goal.loop-first-init
loop-first-init c =
    let firstly : IsFirstPlace c.args.places.now c.args.level_start (length c.args.lits.now) c.args.marked.now.items
    c.first_place-first.result =
    subst (λ xs. IsFirstPlace c.args.places.now c.args.level_start (length c.args.lits.now) xs
    c.first_place-first.result) c.as_slice.ensures.value
    (c.first_place-first.ensures (length c.args.lits.now)
    (first-none c.args.places.now c.args.level_start (length c.args.lits.now) (length c.args.lits.now) refl)) in
    let found =
    found_at c.args.marks.now c.args.lits.now c.first_place-first.result (length c.args.lits.now) c.unwrap-place.result
    c.last_marked.result c.last_marked.ensures.some c.unwrap-place.ensures in
    record {
      len = refl;
      marks = c.requires.marks;
      first = firstly;
      before = found.from_on;
      within = found.before;
      marked =
          found-marked c.args.marks.now c.args.lits.now c.first_place-first.result (length c.args.lits.now)
          c.unwrap-place.result found;
      steps =
          λ first before.
          leads-found c.args.clauses.now first c.args.steps.now.items c.args.marks.now c.args.lits.now
          c.first_place-first.result (length c.args.lits.now) c.unwrap-place.result found
          (subst (Leads c.args.clauses.now first c.args.steps.now.items c.args.marks.now)
          (sym (take_all (length c.args.lits.now) c.args.lits.now (le_refl (length c.args.lits.now)))) before);
    }

pub first_place-first-requires-in-loop-first-clause-places : goal.first_place-first-requires-in-loop-first-clause-places
first_place-first-requires-in-loop-first-clause-places c =
    let marks : AreMarks c.args.lits.now c.resolve.new.marks c.resolve.new.marked.items = record {
      listed = c.resolve.ensures.listed c.loop-first.invariant.marks.listed;
      placed = c.in_ok-resolve.ensures.placed c.loop-first.invariant.marks.placed;
    } in
    subst (λ xs. (x : ℕ) → contains_number xs x ≡ true → x < length c.args.places.now)
    (sym c.as_slice-in-loop-first.ensures.value)
    (all-within c.args.lits.now c.resolve.new.marks c.args.places.now c.resolve.new.marked.items marks
    c.requires.places)

pub unwrap-place-requires-in-loop-first : goal.unwrap-place-requires-in-loop-first
unwrap-place-requires-in-loop-first c =
    let marks : AreMarks c.args.lits.now c.resolve.new.marks c.resolve.new.marked.items = record {
      listed = c.resolve.ensures.listed c.loop-first.invariant.marks.listed;
      placed = c.in_ok-resolve.ensures.placed c.loop-first.invariant.marks.placed;
    } in
    let done : c.len-done.result ≡ length c.loop-first.marked.items = omega arith in
    let old : c.loop-first.marked.items ≡ take c.len-done.result c.as_slice-in-loop-first.result.now =
    sym (ap (take c.len-done.result) c.as_slice-in-loop-first.ensures.value
    ∙ ap (λ n. take n c.resolve.new.marked.items) done ∙ c.resolve.ensures.same) in
    let firstly : IsFirstPlace c.args.places.now c.args.level_start (length c.args.lits.now)
    c.resolve.new.marked.items c.first_place-first-in-loop-first.result =
    subst (λ xs. IsFirstPlace c.args.places.now c.args.level_start (length c.args.lits.now) xs
    c.first_place-first-in-loop-first.result) c.as_slice-in-loop-first.ensures.value
    (c.first_place-first-in-loop-first.ensures (length c.args.lits.now)
    (subst (λ xs. IsFirstPlace c.args.places.now c.args.level_start (length c.args.lits.now) xs c.loop-first.first) old
    c.loop-first.invariant.first)) in
    let before = c.loop-first.invariant.before in
    let within = c.loop-first.invariant.within in
    let earlier =
    first-earlier c.args.lits.now c.loop-first.marks c.args.places.now c.loop-first.marked.items
    c.resolve.new.marked.items c.args.level_start c.loop-first.first c.first_place-first-in-loop-first.result
    c.loop-first.invariant.marks c.requires.places c.loop-first.invariant.first firstly c.resolve.ensures.same
    (omega (arith, before, within)) in
    let there =
    first-marked c.args.lits.now c.resolve.new.marks c.args.places.now c.resolve.new.marked.items c.args.level_start
    c.first_place-first-in-loop-first.result marks c.requires.places firstly (omega (arith, before, within, earlier)) in
    let test = c.loop-first-test.true in
    last-there c.resolve.new.marks c.args.lits.now c.first_place-first-in-loop-first.result c.loop-first.place there.0
    c.last_marked-in-loop-first.result there.1 there.2 (omega (arith, earlier, test))
    c.last_marked-in-loop-first.ensures.none

pub loop-first-preserved : goal.loop-first-preserved
loop-first-preserved c =
    let done : c.len-done.result ≡ length c.loop-first.marked.items = omega arith in
    let old : c.loop-first.marked.items ≡ take c.len-done.result c.as_slice-in-loop-first.result.now =
    sym (ap (take c.len-done.result) c.as_slice-in-loop-first.ensures.value
    ∙ ap (λ n. take n c.resolve.new.marked.items) done ∙ c.resolve.ensures.same) in
    let found =
    found_at c.resolve.new.marks c.args.lits.now c.first_place-first-in-loop-first.result c.loop-first.place
    c.unwrap-place-in-loop-first.result c.last_marked-in-loop-first.result
    c.last_marked-in-loop-first.ensures.some c.unwrap-place-in-loop-first.ensures in
    let below = found.before in
    let within = c.loop-first.invariant.within in
    record {
      len = c.resolve.ensures.length ∙ c.loop-first.invariant.len;
      marks =
          record {
            listed = c.resolve.ensures.listed c.loop-first.invariant.marks.listed;
            placed = c.in_ok-resolve.ensures.placed c.loop-first.invariant.marks.placed;
          };
      first =
          subst (λ xs. IsFirstPlace c.args.places.now c.args.level_start (length c.args.lits.now) xs
          c.first_place-first-in-loop-first.result) c.as_slice-in-loop-first.ensures.value
          (c.first_place-first-in-loop-first.ensures (length c.args.lits.now)
          (subst (λ xs. IsFirstPlace c.args.places.now c.args.level_start (length c.args.lits.now) xs
          c.loop-first.first) old c.loop-first.invariant.first));
      before = found.from_on;
      within = omega (arith, below, within);
      marked =
          found-marked c.resolve.new.marks c.args.lits.now c.first_place-first-in-loop-first.result c.loop-first.place
          c.unwrap-place-in-loop-first.result found;
      steps =
          λ first leads.
          leads-found c.args.clauses.now first c.resolve.new.steps.items c.resolve.new.marks c.args.lits.now
          c.first_place-first-in-loop-first.result c.loop-first.place c.unwrap-place-in-loop-first.result found
          (c.in_ok-resolve.ensures.step first (c.loop-first.invariant.steps first leads));
    }

pub returns-clause-alone : goal.returns-clause-alone
returns-clause-alone c =
    let before = c.loop-first.invariant.before in
    let test = c.loop-first-test.false in
    let same : c.loop-first.first ≡ c.loop-first.place = omega (arith, before, test) in
    first-alone c.args.lits.now c.loop-first.marks c.args.places.now c.loop-first.marked.items c.args.level_start
    (length c.args.lits.now) c.loop-first.place c.loop-first.invariant.marks.listed c.requires.places
    (subst (IsFirstPlace c.args.places.now c.args.level_start (length c.args.lits.now) c.loop-first.marked.items) same
    c.loop-first.invariant.first)
