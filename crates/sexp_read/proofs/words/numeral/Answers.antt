use Rattle.std.proofs.Common.{Some, sym, ap, ◌∙◌}
use Rattle.std.specs.Prelude.{unwrap_or}
use Rattle.sexp_read.proofs.NumeralLemmas.{saturated}
use Rattle.sexp_read.proofs.words.numeral.Goals as goal

pub returns : goal.returns
returns c =
    let numeral = sym c.is_numeral.ensures ∙ c.if-not-is_numeral.false in
    rw numeral (ap Some (c.unwrap_or.ensures
    ∙ ap (λ o. unwrap_or o 18446744073709551615) c.numeral_between.ensures.value
    ∙ saturated 18446744073709551615 c.args.word.now numeral))
