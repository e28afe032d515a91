use Rattle.std.proofs.Common.{arith}
use Rattle.bv_terms.specs.Table.{term_at, terms_of}
use Rattle.spec_reader.proofs.ShapeLemmas.{marks-others}
use Rattle.spec_reader.proofs.shape.marks_at.Goals as goal

pub returns-then-args-ne2 : goal.returns-then-args-ne2
returns-then-args-ne2 c =
    marks-others c.args.marked (terms_of c.args.terms.now) c.args.args.now c.args.bytes
    (term_at c.args.terms.now c.args.pointer) (λ e. omega (arith, e))
