use Rattle.std.proofs.Common.{◌∙◌, sym, eqb-true}
use Rattle.std.proofs.Common.{eq-eqb}
use Rattle.isel_spec.specs.Spec.{file}
use Rattle.pattern_text.specs.Rules.{IsPatternOf}
use Rattle.pattern_text.proofs.VerdictLemmas.{of-size}
use Rattle.pattern_text.proofs.rules.is_pattern_of.Goals as goal

pub returns : goal.returns
returns c = (
  λ same. of-size c.args.spec.now c.args.goal c.args.size c.args.pattern.now c.is_well_formed.result c.requires.goal_in
      c.requires.small c.if-not-is_well_formed.false c.is_well_formed.ensures
      (sym c.len.ensures ∙ eqb-true c.len.result c.from.result same ∙ c.from.ensures),
  λ (of : IsPatternOf (file c.args.spec.now) c.args.goal c.args.size c.args.pattern.now).
      eq-eqb c.len.result c.from.result (c.len.ensures ∙ of.of_size ∙ sym c.from.ensures),
)
