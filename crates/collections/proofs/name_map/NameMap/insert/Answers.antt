-- A name that is not there goes last.
use Rattle.std.proofs.Common.{List, ℕ, Contains, sym, ap, ◌∙◌, subst, ◌++◌, ◌∷◌, []}
use Rattle.std.specs.String.{string_bytes}
use Rattle.collections.proofs.NameLemmas.{names, pairs, pairs-insert}
use Rattle.collections.proofs.name_map.NameMap.insert.Goals as goal

pub returns-clause-ok : goal.returns-clause-ok
returns-clause-ok g c =
    let new = subst (λ (ps : List (List ℕ × g.row.T.Denot)). ¬ (Contains (names ps) (string_bytes c.args.name)))
    (sym c.self.view_is) c.requires in
    ap pairs c.in_ok-insert.ensures.entries ∙ pairs-insert c.self.inside.entries c.args.name c.args.value new
    ∙ ap (λ ps. ps ++ (string_bytes c.args.name, c.args.value) ∷ []) c.self.view_is
