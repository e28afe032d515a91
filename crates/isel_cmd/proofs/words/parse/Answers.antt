use Rattle.std.proofs.Common.{codes, rules}
use Rattle.std.specs.String.{string_bytes}
use Rattle.isel_cmd.proofs.Compared.{same_word, six_of, six_words, without_bound, without_budget}
use Rattle.isel_cmd.proofs.words.parse.Goals as goal

pub returns : goal.returns
returns c =
    let command = same_word c.as_str.result.now (codes "synth") c.if-ne.ensures in
    let first = same_word c.as_str-2.result.now (codes "--bound") c.if-ne-2.ensures in
    let second = same_word c.as_str-3.result.now (codes "--budget") c.if-ne-3.ensures in
    let words = six_of string_bytes c.args.words.now c.command-item.result c.file-item.result c.bound_flag-item.result
    c.bound-item.result c.budget_flag-item.result c.budget-item.result
    c.in-len6.len_at_least c.in-len6.len_below c.command-item.is c.file-item.is c.bound_flag-item.is c.bound-item.is
    c.budget_flag-item.is c.budget-item.is in
    record {
      spelled = six_words _ _ _ _ _ _ _ _ _ _ _ _ _ _ _ _ _ _ words c.as_str.ensures.value c.as_str-file.ensures.value
          c.as_str-2.ensures.value c.as_str-4.ensures.value c.as_str-3.ensures.value c.as_str-5.ensures.value
          command first c.in-Some.ensures.some.0 second c.in-Some-budget_of.ensures.some.0;
      file = c.if-not-is_file_name.ensures.0 (search rules);
      within = c.in-Some.ensures.some.1;
      some = c.in-Some-budget_of.ensures.some.1;
      most = c.in-Some-budget_of.ensures.some.2;
    }

pub returns-in_default-bound_of : goal.returns-in_default-bound_of
returns-in_default-bound_of c =
    let words = six_of string_bytes c.args.words.now c.command-item.result c.file-item.result c.bound_flag-item.result
    c.bound-item.result c.budget_flag-item.result c.budget-item.result
    c.in-len6.len_at_least c.in-len6.len_below c.command-item.is c.file-item.is c.bound_flag-item.is c.bound-item.is
    c.budget_flag-item.is c.budget-item.is in
    without_bound _ _ _ _ _ _ _ _ words c.as_str-4.ensures.value c.in_default-bound_of.ensures.none

pub returns-in_default-budget_of : goal.returns-in_default-budget_of
returns-in_default-budget_of c =
    let words = six_of string_bytes c.args.words.now c.command-item.result c.file-item.result c.bound_flag-item.result
    c.bound-item.result c.budget_flag-item.result c.budget-item.result
    c.in-len6.len_at_least c.in-len6.len_below c.command-item.is c.file-item.is c.bound_flag-item.is c.bound-item.is
    c.budget_flag-item.is c.budget-item.is in
    without_budget _ _ _ _ _ _ _ _ words c.as_str-5.ensures.value c.in_default-budget_of.ensures.none
