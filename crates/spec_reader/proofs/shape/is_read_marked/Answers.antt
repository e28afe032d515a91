use Rattle.std.proofs.Common.{◌∙◌, arith, sym}
use Rattle.bv_terms.specs.Table.{terms_of}
use Rattle.term_text.specs.Build.{terms_at}
use Rattle.spec_reader.proofs.ShapeLemmas.{is_marked-others, is_marked-two}
use Rattle.spec_reader.proofs.shape.is_read_marked.Goals as goal

pub returns-then-args-ne2 : goal.returns-then-args-ne2
returns-then-args-ne2 c =
    is_marked-others c.args.bytes (terms_of c.args.terms.now) c.args.args.now
    (terms_at c.args.terms.now c.args.memories.now) (λ e. omega (arith, e))

pub returns : goal.returns
returns c =
    c.has_mark.ensures
    ∙ sym (is_marked-two c.args.bytes (terms_of c.args.terms.now) c.args.args.now
    (terms_at c.args.terms.now c.args.memories.now) (record { 0 = 0 }) (omega arith))
