use Rattle.bv_terms.specs.Table.{term_at, terms_of}
use Rattle.spec_reader.proofs.ShapeLemmas.{chain-end, chain-more}
use Rattle.spec_reader.proofs.shape.made_from.Goals as goal

pub returns-in-empty-clause-chain : goal.returns-in-empty-clause-chain
returns-in-empty-clause-chain c =
    chain-end (term_at c.args.terms.now c.args.at) c.node.result.0.now (terms_of c.args.terms.now) c.node.result.1.now
    c.node.ensures.term c.in-empty.len_below

pub returns-in-len1-up-clause-chain : goal.returns-in-len1-up-clause-chain
returns-in-len1-up-clause-chain c =
    chain-more (term_at c.args.terms.now c.args.at) c.node.result.0.now (terms_of c.args.terms.now) c.node.result.1.now
    (record { 0 = 0 }) c.node.ensures.term c.in-len1-up.len_at_least
