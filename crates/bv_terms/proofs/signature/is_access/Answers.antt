-- A memory has as many addresses as a pointer has values.
use Rattle.std.proofs.Common.{sym, ap, ◌∙◌}
use Rattle.bv_terms.specs.Signature.{is_access}
use Rattle.bv_terms.proofs.SignatureLemmas.{has_2, has_4, has_8}
use Rattle.bv_terms.proofs.signature.is_access.Goals as goal

pub returns-in-2 : goal.returns-in-2
returns-in-2 c = has_2 c.args.pointer ∙ ap (is_access c.args.pointer) (sym c.in-2.is)

pub returns-in-4 : goal.returns-in-4
returns-in-4 c = has_4 c.args.pointer ∙ ap (is_access c.args.pointer) (sym c.in-4.is)

pub returns-in-8 : goal.returns-in-8
returns-in-8 c = has_8 c.args.pointer ∙ ap (is_access c.args.pointer) (sym c.in-8.is)
