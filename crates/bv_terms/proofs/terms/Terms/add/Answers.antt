-- The node that is not there goes last, and what is kept stays true.
use Rattle.std.proofs.Common.{◌≡◌, arith}
use Rattle.bv_terms.specs.Table.{table_with}
use Rattle.bv_terms.specs.Node.{table_of, entry_of, IsTermTable}
use Rattle.bv_terms.proofs.TermTableLemmas.{kept-added}
use Rattle.bv_terms.proofs.terms.Terms.add.Goals as goal

abbrev added : (c : goal.In_ok-insert) → IsTermTable c.self.inside.pointer c.insert.new.self.entries
    × (table_of c.self.inside.pointer c.insert.new.self.entries ≡ table_with c.args.self.now (entry_of c.args.node))
added c =
    kept-added c.self.inside.pointer c.self.inside.nodes c.self.invariant c.args.node c.args.sort c.args.self.now
    c.self.view_is
    (record {
      padded = c.requires.padded;
      earlier = c.requires.earlier;
      sorted = c.requires.sorted;
      new = c.requires.new;
      room = omega (arith, c.len-place.ensures.len);
    })
    c.insert.new.self.entries c.in_ok-insert.ensures.entries

pub invariant_of-self-2 : goal.invariant_of-self-2
invariant_of-self-2 c = (added c).0

pub returns-clause-added : goal.returns-clause-added
returns-clause-added c = (added c).1

pub returns-clause-table : goal.returns-clause-table
returns-clause-table c = (added c).0.table
