use Rattle.std.proofs.Common.{◌<◌, length, arith}
use Rattle.std.proofs.lemmas.List.Elements.{All-weaker}
use Rattle.bv_terms.specs.declared.op.TermId.{TermId}
use Rattle.bv_terms.specs.Table.{Entry}
use Rattle.bv_terms.proofs.TableLemmas.{term_at-node}
use Rattle.spec_reader.proofs.shape.node.Goals as goal

pub returns-clause-term : goal.returns-clause-term
returns-clause-term c =
    let e : Entry = record { op = c.node.result.0.now; args = c.node.result.1.now } in
    term_at-node c.args.terms.now c.len-size.ensures.table c.args.at e c.node.ensures

pub returns-clause-earlier : goal.returns-clause-earlier
returns-clause-earlier c =
    let e : Entry = record { op = c.node.result.0.now; args = c.node.result.1.now } in
    c.len-size.ensures.table.earlier c.args.at.0 e c.node.ensures

pub returns-clause-within : goal.returns-clause-within
returns-clause-within c =
    let e : Entry = record { op = c.node.result.0.now; args = c.node.result.1.now } in
    All-weaker (λ (a : TermId). a.0 < c.args.at.0) (λ (a : TermId). a.0 < length c.args.terms.now.nodes)
    (λ a h. omega arith) e.args
    (c.len-size.ensures.table.earlier c.args.at.0 e c.node.ensures)
