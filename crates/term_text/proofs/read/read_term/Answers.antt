use Rattle.std.proofs.Common.{sym, subst, refl}
use Rattle.sexp_read.specs.Forest.{tree_at}
use Rattle.term_text.specs.declared.scope.Scope as declared
use Rattle.term_text.specs.Reading.{term_read}
use Rattle.term_text.specs.Scope.{IsRead, AreNamesIn, terms_under}
use Rattle.term_text.proofs.ReadLemmas.{outer-alone, read-grammar, read-every}
use Rattle.term_text.proofs.read.read_term.Goals as goal

pub term-requires-clause-names : goal.term-requires-clause-names
term-requires-clause-names c =
    let scope : declared.Scope = record { outer = c.args.names; bound = c.new.result } in
    subst (AreNamesIn c.args.terms.now) (sym (outer-alone scope c.args.names.now c.new.ensures.items refl))
    c.requires.names

pub returns : goal.returns
returns c =
    let scope : declared.Scope = record { outer = c.args.names; bound = c.new.result } in
    let tree = tree_at c.args.bytes.now c.args.forest.now.items c.args.item in
    let p = c.args.terms.now.pointer in
    let names = terms_under c.args.terms.now c.args.names.now in
    let read = subst (λ es. IsRead c.term.new.terms (term_read p (terms_under c.args.terms.now es) tree) c.term.result)
    (outer-alone scope c.args.names.now c.new.ensures.items refl) c.term.ensures.read in
    record {
      read = read;
      extends = c.term.ensures.extends;
      grammar = read-grammar p names tree c.term.new.terms c.term.result read;
      every_term = read-every p names tree c.term.new.terms c.term.result read;
    }
