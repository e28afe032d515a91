use Rattle.std.proofs.Common.{◌≡◌, List, ℕ, sym, subst, true}
use Rattle.sexp_read.specs.Forest.{tree_at}
use Rattle.sexp_read.specs.Words.{is_name}
use Rattle.spec_reader.proofs.NameLemmas.{name-is-name}
use Rattle.spec_reader.proofs.names.own_name_fault.Goals as goal

pub is_taken-requires : goal.is_taken-requires
is_taken-requires c =
    subst (λ (word : List ℕ). is_name word ≡ true) (sym c.name_of.ensures)
    (name-is-name (tree_at c.args.bytes.now c.args.forest.now.items c.args.item) c.requires.named)
