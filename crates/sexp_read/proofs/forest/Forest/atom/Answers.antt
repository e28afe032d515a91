use Rattle.std.proofs.Common.{slice_index_or, sym, ap, ◌∙◌}
use Rattle.sexp_read.specs.declared.forest.Item.{Item}
use Rattle.sexp_read.proofs.ForestLemmas.{item-at}
use Rattle.sexp_read.proofs.TreeAtLemmas.{atom-none, atom-some, atom-word}
use Rattle.sexp_read.proofs.forest.Forest.atom.Goals as goal

pub returns-in-List-clause-value : goal.returns-in-List-clause-value
returns-in-List-clause-value c =
    let read = c.index-as_slice-item in
    let same = ap (λ is. slice_index_or is c.args.item read.result) c.as_slice.ensures in
    sym (atom-none c.args.bytes.now c.args.self.now.items c.args.item read.result c.in-List.children
    (item-at _ c.args.item read.result (read.is ∙ same) c.requires.item_in)
    (ap (λ (i : Item). i.body) read.is ∙ c.in-List.is))

pub returns-in-List-clause-word : goal.returns-in-List-clause-word
returns-in-List-clause-word c =
    returns-in-List-clause-value c
    ∙ atom-word c.args.bytes.now c.args.self.now c.requires.reading c.args.item c.requires.item_in

pub returns-in-Atom-clause-value : goal.returns-in-Atom-clause-value
returns-in-Atom-clause-value c =
    let read = c.index-as_slice-item in
    let same = ap (λ is. slice_index_or is c.args.item read.result) c.as_slice.ensures in
    sym (atom-some c.args.bytes.now c.args.self.now.items c.args.item read.result c.text.result.now
    (item-at _ c.args.item read.result (read.is ∙ same) c.requires.item_in)
    (ap (λ (i : Item). i.body) read.is ∙ c.in-Atom.is) c.text.ensures)

pub returns-in-Atom-clause-word : goal.returns-in-Atom-clause-word
returns-in-Atom-clause-word c =
    returns-in-Atom-clause-value c
    ∙ atom-word c.args.bytes.now c.args.self.now c.requires.reading c.args.item c.requires.item_in
