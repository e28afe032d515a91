use Rattle.std.proofs.Common.{◌∙◌, ap}
use Rattle.std.proofs.lemmas.Result.{IfOk-weaker}
use Rattle.bv_terms.specs.declared.value.Sort.TheVariants as sort
use Rattle.bv_terms.specs.WellSorted.{sort_of}
use Rattle.loc_encode.specs.Slots.{slot_number}
use Rattle.loc_encode.proofs.BuildingLemmas.{made_choice, IsOneSort-longer, sort-input, choice-made}
use Rattle.loc_encode.proofs.building.choice.Goals as goal

pub made-requires-clause-allowed : goal.made-requires-clause-allowed
made-requires-clause-allowed c =
    let old = c.args.terms.now in
    let mid = c.input.new.terms in
    let k = slot_number c.args.slot in
    made_choice mid c.in_ok-truth.truth c.args.chosen c.args.other
    (IsOneSort-longer old mid c.args.chosen c.args.other c.input.ensures.extends c.requires.sort)
    (ap (sort_of mid.pointer) c.in_ok-truth.ensures.term ∙ sort-input mid.pointer k sort.Bool tt)

pub returns-clause-term : goal.returns-clause-term
returns-clause-term c =
    let k = slot_number c.args.slot in
    IfOk-weaker c.made.result _ _
    (λ id e. choice-made c.args.terms.now c.input.new.terms c.made.new.terms c.in_ok-truth.truth c.args.chosen
    c.args.other id k c.requires.sort c.input.ensures.extends c.in_ok-truth.ensures.term e) c.made.ensures.term
