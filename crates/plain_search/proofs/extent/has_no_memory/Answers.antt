use Rattle.std.proofs.Common.{ap, sym, ◌∙◌}
use Rattle.std.specs.List.{list_all}
use Rattle.isel_spec.specs.Spec.{file}
use Rattle.plain_search.specs.Extent.{is_value}
use Rattle.plain_search.proofs.ExtentLemmas.{args_are, refused, memory-from_args, memory_decided}
use Rattle.plain_search.proofs.extent.has_no_memory.Goals as goal

pub returns-then-not-are_inputs_values : goal.returns-then-not-are_inputs_values
returns-then-not-are_inputs_values c = λ g there.
    let args = args_are c.args.spec.now c.args.goal _ _ _ g c.goal.ensures.1 c.as_slice-args.ensures there in
    refused (memory-from_args (file c.args.spec.now) g
    (ap (list_all is_value) (sym args) ∙ sym c.are_inputs_values.ensures ∙ c.if-not-are_inputs_values.true))

pub returns : goal.returns
returns c = λ g there.
    let args = args_are c.args.spec.now c.args.goal _ _ _ g c.goal.ensures.1 c.as_slice-args.ensures there in
    memory_decided (file c.args.spec.now) g c.do_operations_take_values.result
    (ap (list_all is_value) (sym args) ∙ sym c.are_inputs_values.ensures ∙ c.if-not-are_inputs_values.false)
    c.do_operations_take_values.ensures
