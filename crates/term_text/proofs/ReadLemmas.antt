-- What is read, said by the grammar.
use Rattle.std.proofs.Common.{◌≡◌, ℕ, [], ◌++◌, Result, Ok, Err}
use Rattle.std.proofs.Common.{IfOk, inl, inr, sym, ◌∙◌}
use Rattle.std.specs.Prelude.{MatchResult, reverse}
use Rattle.std.specs.List.{flat_map}
use Rattle.bv_terms.specs.declared.op.TermId.{TermId}
use Rattle.bv_terms.specs.Term.{Term}
use Rattle.bv_terms.specs.Table.{Table, term_at}
use Rattle.sexp_read.specs.Tree.{Tree}
use Rattle.term_text.specs.declared.fault.TermFault.{TermFault}
use Rattle.term_text.specs.declared.fault.TermKind.TheVariants as kind
use Rattle.term_text.specs.declared.scope.Scope as declared
use Rattle.term_text.specs.Reading.{Scope, term_read}
use Rattle.term_text.specs.Grammar.{IsTermOf}
use Rattle.term_text.specs.Scope.{Names, IsRead, names_of}
use Rattle.term_text.proofs.GrammarLemmas.{read-is-term, term-is-read}

pub read-grammar : (p : ℕ) (scope : Scope) (tree : Tree) (table : Table) (result : Result TermId TermFault)
    → IsRead table (term_read p scope tree) result → IfOk result (λ at. IsTermOf p scope tree (term_at table at))
read-grammar p scope tree table (Ok at) h = read-is-term p scope tree (term_at table at) h.1
read-grammar p scope tree table (Err f) h = tt

same-ok : (t u : Term) → ◌≡◌ {A = Result Term TermFault} (Ok t) (Ok u) → t ≡ u
same-ok t u h = cc

not-both : (f : TermFault) (t : Term) → ◌≡◌ {A = Result Term TermFault} (Err f) (Ok t) → ⊥
not-both f t h = cc

pub read-every : (p : ℕ) (scope : Scope) (tree : Tree) (table : Table) (result : Result TermId TermFault)
    → IsRead table (term_read p scope tree) result → (t : Term) → IsTermOf p scope tree t
    → MatchResult result (λ at. term_at table at ≡ t) (λ fault. fault.kind ≡ kind.NoMemory)
read-every p scope tree table (Ok at) h t is =
    same-ok (term_at table at) t (sym h.1 ∙ term-is-read p scope tree t is)
read-every p scope tree table (Err f) (inl h) t is = h
read-every p scope tree table (Err f) (inr h) t is = absurd (not-both f t (sym h ∙ term-is-read p scope tree t is))

-- where nothing is bound there are the outer names alone
pub outer-alone : (scope : declared.Scope) (names : Names) → scope.bound.items ≡ [] → scope.outer.now ≡ names
    → names_of scope ≡ names
outer-alone scope names h k = λ i. flat_map (λ names. names) (reverse (h i)) ++ k i
