-- What is known of the claims of a file, and of their slots.
use Rattle.std.proofs.Common.{◌≡◌, ◌∙◌, ◌<◌, ◌≤◌, ℕ, List, Some, refl, sym, subst, Contains}
use Rattle.std.proofs.Common.{length, slice_get, arith}
use Rattle.std.specs.Prelude.{IsSome}
use Rattle.std.proofs.lemmas.List.{length-map}
use Rattle.std.proofs.lemmas.Option.{slice_get_within, same_Some}
use Rattle.bv_terms.specs.declared.op.TermId.{TermId}
use Rattle.bv_terms.specs.declared.value.Sort.{Sort}
use Rattle.bv_terms.specs.Term.{Term}
use Rattle.bv_terms.specs.Table.{IsTable, terms_of, term_in}
use Rattle.bv_terms.specs.WellSorted.{sort_of}
use Rattle.isel_spec.specs.declared.spec.Spec.{Spec}
use Rattle.isel_spec.specs.File.{Operation, Goal, operation, goal}
use Rattle.isel_spec.specs.Spec.{file}
use Rattle.isel_spec.proofs.SpecLemmas.{IsSoundOp_at, IsSoundGoal_at, few_ops}
use Rattle.pattern_core.specs.Claim.{Claim, IsClaim}
use Rattle.pattern_core.specs.declared.pattern.Src.{Src}
use Rattle.pattern_core.specs.declared.pattern.Src.TheVariants.{Input, Out}
use Rattle.pattern_core.proofs.TotalLemmas.{IsLimited-from_spec}
use Rattle.list_lemmas.proofs.Lists.{Each}
use Rattle.list_lemmas.proofs.Lookups.{mapped_at, some_at}
use Rattle.loc_encode.specs.declared.slots.Slot.{Slot}
use Rattle.loc_encode.specs.declared.slots.Slot.TheVariants as slot
use Rattle.loc_encode.specs.Slots.{IsSlot, IsSourceAt, IsOperationOf}
use Rattle.loc_encode.specs.Numbers.{IsSmall, IsSmallSource}

-- ---- limits

-- an operation of at most four arguments, two attributes and three results
pub record IsSmallOp (o : Operation) : Type 0 where
  pub args : length o.args ≤ 4
  pub attrs : length o.attrs ≤ 2
  pub results : length o.results ≤ 3

-- the limits of a file, and of the multisets
pub record IsLimitedClaim (c : Claim) : Type 0 where
  pub args : length c.goal.args ≤ 4
  pub results : length c.goal.results ≤ 3
  pub sorted : Each (λ (t : Term). IsSome (sort_of c.file.pointer t)) c.goal.results
  pub small : (k : ℕ) (o : Operation) → slice_get c.file.ops k ≡ Some o → IsSmallOp o
  pub kinds : length c.file.ops ≤ 64
  pub lines : length c.ops ≤ 6

small_op : (s : Spec) (k : ℕ) (o : Operation) → slice_get (file s).ops k ≡ Some o → IsSmallOp o
small_op s k o e =
    let at = mapped_at (operation s.terms) s.ops k o e in
    let sound = IsSoundOp_at s k at.0 at.1 in
    let results = length-map at.0.1.results (λ (a : TermId). term_in (terms_of s.terms) a.0) in
    subst IsSmallOp at.2 (record {
      args = sound.few;
      attrs = sound.few_attrs;
      results = subst (λ n. n ≤ 3) (sym results) sound.most;
    })

few_results : (s : Spec) (k : ℕ) (g : Goal) → slice_get (file s).goals k ≡ Some g → length g.results ≤ 3
few_results s k g e =
    let at = mapped_at (goal s.terms) s.goals k g e in
    let sound = IsSoundGoal_at s k at.0 at.1 in
    let results = length-map at.0.1.results (λ (a : TermId). term_in (terms_of s.terms) a.0) in
    subst (λ (x : Goal). length x.results ≤ 3) at.2 (subst (λ n. n ≤ 3) (sym results) sound.most)

-- the goal of the file with these operations
pub claim_of : Spec → Goal → List ℕ → Claim
claim_of s g ops = record { file = file s; goal = g; ops = ops }

limits-of : (s : Spec) (place : ℕ) (g : Goal) (ops : List ℕ) → IsTable s.terms
    → slice_get (file s).goals place ≡ Some g → length ops ≤ 6
    → IsLimitedClaim (record { file = file s; goal = g; ops = ops })
limits-of s place g ops table e few =
    let limits = IsLimited-from_spec s place g table e in
    record {
      args = limits.args;
      results = few_results s place g e;
      sorted = limits.sorted;
      small = small_op s;
      kinds = subst (λ n. n ≤ 64) (sym (length-map s.ops (operation s.terms))) (few_ops s);
      lines = few;
    }

-- a claim of a file is the goal's with these operations
pub claim-is : (s : Spec) (place : ℕ) (ops : List ℕ) (c : Claim) → IsClaim s place ops c
    → c ≡ record { file = file s; goal = c.goal; ops = ops }
claim-is s place ops c is = λ i. record { file = is.of_file i; goal = c.goal; ops = is.of_ops i }

pub IsLimitedClaim-from_spec : (s : Spec) (place : ℕ) (ops : List ℕ) (c : Claim) → IsTable s.terms → length ops ≤ 6
    → IsClaim s place ops c → IsLimitedClaim c
IsLimitedClaim-from_spec s place ops c table few is =
    subst IsLimitedClaim (sym (claim-is s place ops c is)) (limits-of s place c.goal ops table is.of_goal few)

-- there is one, where the goal is in the file
pub has_claim : (s : Spec) (place : ℕ) (ops : List ℕ) → place < length s.goals → (c : Claim) × IsClaim s place ops c
has_claim s place ops within =
    let count : length (file s).goals ≡ length s.goals = length-map s.goals (goal s.terms) in
    let at = some_at (file s).goals place (omega (arith, count, within)) in (
      record { file = file s; goal = at.0; ops = ops },
      record { of_file = refl; of_goal = at.1; of_ops = refl },
    )

-- and no other
pub same-claim : (s : Spec) (place : ℕ) (ops : List ℕ) (c d : Claim) → IsClaim s place ops c → IsClaim s place ops d
    → c ≡ d
same-claim s place ops c d a b =
    let goals : c.goal ≡ d.goal = same_Some c.goal d.goal (sym a.of_goal ∙ b.of_goal) in
    let files : c.file ≡ d.file = a.of_file ∙ sym b.of_file in
    let kinds : c.ops ≡ d.ops = a.of_ops ∙ sym b.of_ops in
    λ i. record { file = files i; goal = goals i; ops = kinds i }

-- ---- slots are small

small-op : (c : Claim) → IsLimitedClaim c → (op : ℕ) (o : Operation) → IsOperationOf c op o → op < 64
small-op c limits op o is =
    let within = slice_get_within c.file.ops op o is.1 in
    let kinds = limits.kinds in
    omega (arith, within, kinds)

small-source : (c : Claim) → IsLimitedClaim c → (line : ℕ) → line ≤ 6 → (s : Sort) (x : Src) → IsSourceAt c line s x
    → IsSmallSource x
small-source c limits line few s (Input k) e =
    let within = slice_get_within c.goal.args k s e in
    let args = limits.args in
    omega (arith, within, args)
small-source c limits line few s (Out node result) e =
    let o : Operation = e.1.1 in
    let found = e.1.3 in
    let within = slice_get_within o.results result found.0 found.1 in
    let op = e.1.2 in
    let small = limits.small e.1.0 o op.1 in
    let results = small.results in
    (omega (arith, few, e.0), omega (arith, within, results))

pub IsSmall-slot : (c : Claim) → IsLimitedClaim c → ((op : ℕ) → Contains c.ops op → op < 64) → (x : Slot) (s : Sort)
    → IsSlot c x s → IsSmall x
IsSmall-slot c limits there (slot.Kind line op) s is =
    let lines = limits.lines in (omega (arith, lines, is.0), there op is.1)
IsSmall-slot c limits there (slot.Attr line op place) s is =
    let lines = limits.lines in
    let o : Operation = is.1.0 in
    let found = is.1.2 in
    let within = slice_get_within o.attrs place is.1.1 is.1.3 in
    let small = limits.small op o found.1 in
    let attrs = small.attrs in
    (omega (arith, lines, is.0), there op found.0, omega (arith, within, attrs))
IsSmall-slot c limits there (slot.Arg line place source) s is =
    let lines = limits.lines in
    let o : Operation = is.1.1 in
    let t : Sort = is.1.2 in
    let found = is.1.3 in
    let within = slice_get_within o.args place t is.1.4 in
    let small = limits.small is.1.0 o found.1 in
    let args = small.args in (
      omega (arith, lines, is.0),
      omega (arith, within, args),
      small-source c limits line (omega (arith, lines, is.0)) t source is.1.5,
    )
IsSmall-slot c limits there (slot.Result place source) s is =
    let within = slice_get_within c.goal.results place is.0.0 is.0.2 in
    let results = limits.results in
    (omega (arith, within, results), small-source c limits (length c.ops) limits.lines is.0.1 source is.0.4)
