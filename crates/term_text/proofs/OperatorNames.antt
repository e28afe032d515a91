-- The words that operations are written by: each is a word of a text, and its operator is the operation's.
use Rattle.std.proofs.Common.{◌≡◌, ℕ, List, true, ◌&&◌, nat_lt, Bool, length, Ok, refl}
use Rattle.std.specs.List.{list_all}
use Rattle.bv_terms.specs.declared.op.Op.{Op}
use Rattle.bv_terms.specs.declared.op.Op.TheVariants as op
use Rattle.sexp_read.specs.Tree.{Tree, Word}
use Rattle.term_text.specs.declared.head.Head.TheVariants.{Applied}
use Rattle.term_text.specs.declared.operator.Operator.{Operator}
use Rattle.term_text.specs.declared.operator.Operator.TheVariants.{Operation, Left, Equal, Implies}
use Rattle.term_text.specs.declared.operator.LeftAssociative.TheVariants as left
use Rattle.term_text.specs.Head.{Span, head_of}
use Rattle.term_text.specs.Text.{op_text}
use Rattle.term_text.proofs.SpellingLemmas.{is_word_byte}

abbrev pub is_word : List ℕ → Bool
is_word word = nat_lt 0 (length word) && list_all is_word_byte word

-- an operation's text is a word, and at the head of a list it is this operator
pub record IsNamed (o : Op) (by : Operator) : Type 0 where
  pub word : is_word (op_text o) ≡ true
  pub head : (span : Span) (place : ℕ) (rest : List Tree) → head_of span (Word place (op_text o)) rest ≡ Ok (Applied by)

pub not-named : IsNamed op.Not (Operation op.Not)
not-named = record { word = refl; head = λ span place rest. refl }

pub and-named : IsNamed op.And (Left left.And)
and-named = record { word = refl; head = λ span place rest. refl }

pub or-named : IsNamed op.Or (Left left.Or)
or-named = record { word = refl; head = λ span place rest. refl }

pub xor-named : IsNamed op.Xor (Left left.Xor)
xor-named = record { word = refl; head = λ span place rest. refl }

pub implies-named : IsNamed op.Implies Implies
implies-named = record { word = refl; head = λ span place rest. refl }

pub eq-named : IsNamed op.Eq Equal
eq-named = record { word = refl; head = λ span place rest. refl }

pub ite-named : IsNamed op.Ite (Operation op.Ite)
ite-named = record { word = refl; head = λ span place rest. refl }

pub bvnot-named : IsNamed op.BvNot (Operation op.BvNot)
bvnot-named = record { word = refl; head = λ span place rest. refl }

pub bvneg-named : IsNamed op.BvNeg (Operation op.BvNeg)
bvneg-named = record { word = refl; head = λ span place rest. refl }

pub bvand-named : IsNamed op.BvAnd (Left left.BvAnd)
bvand-named = record { word = refl; head = λ span place rest. refl }

pub bvor-named : IsNamed op.BvOr (Left left.BvOr)
bvor-named = record { word = refl; head = λ span place rest. refl }

pub bvxor-named : IsNamed op.BvXor (Left left.BvXor)
bvxor-named = record { word = refl; head = λ span place rest. refl }

pub bvadd-named : IsNamed op.BvAdd (Left left.BvAdd)
bvadd-named = record { word = refl; head = λ span place rest. refl }

pub bvsub-named : IsNamed op.BvSub (Operation op.BvSub)
bvsub-named = record { word = refl; head = λ span place rest. refl }

pub bvmul-named : IsNamed op.BvMul (Left left.BvMul)
bvmul-named = record { word = refl; head = λ span place rest. refl }

pub bvudiv-named : IsNamed op.BvUdiv (Operation op.BvUdiv)
bvudiv-named = record { word = refl; head = λ span place rest. refl }

pub bvurem-named : IsNamed op.BvUrem (Operation op.BvUrem)
bvurem-named = record { word = refl; head = λ span place rest. refl }

pub bvshl-named : IsNamed op.BvShl (Operation op.BvShl)
bvshl-named = record { word = refl; head = λ span place rest. refl }

pub bvlshr-named : IsNamed op.BvLshr (Operation op.BvLshr)
bvlshr-named = record { word = refl; head = λ span place rest. refl }

pub bvashr-named : IsNamed op.BvAshr (Operation op.BvAshr)
bvashr-named = record { word = refl; head = λ span place rest. refl }

pub bvult-named : IsNamed op.BvUlt (Operation op.BvUlt)
bvult-named = record { word = refl; head = λ span place rest. refl }

pub bvule-named : IsNamed op.BvUle (Operation op.BvUle)
bvule-named = record { word = refl; head = λ span place rest. refl }

pub bvslt-named : IsNamed op.BvSlt (Operation op.BvSlt)
bvslt-named = record { word = refl; head = λ span place rest. refl }

pub bvsle-named : IsNamed op.BvSle (Operation op.BvSle)
bvsle-named = record { word = refl; head = λ span place rest. refl }

pub concat-named : IsNamed op.Concat (Left left.Concat)
concat-named = record { word = refl; head = λ span place rest. refl }
