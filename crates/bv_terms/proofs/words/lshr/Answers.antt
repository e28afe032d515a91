use Rattle.std.proofs.Common.{◌/◌, ◌^◌, ap, ◌∙◌}
use Rattle.bv_terms.specs.declared.value.Value.TheVariants as val
use Rattle.bv_terms.proofs.WordLemmas.{bits-fits, shr-fits}
use Rattle.bv_terms.proofs.words.lshr.Goals as goal

pub returns : goal.returns
returns c = λ fits.
    ap (val.Bits c.args.width) c.shift_right.ensures
    ∙ bits-fits c.args.width (c.args.s / 2 ^ c.args.t) (shr-fits c.args.width c.args.s c.args.t fits)
