-- The map's look-up finds exactly the names of the list.
use Rattle.std.proofs.Common.{List, ℕ, Contains, ◌↔◌, IsTrue, sym, ◌∙◌, subst}
use Rattle.collections.proofs.NameLemmas.{Decides-found, names}
use Rattle.collections.proofs.name_map.NameMap.contains.Goals as goal

pub returns : goal.returns
returns g c =
    let decides = Decides-found c.self.inside.entries.entries c.args.name.now in
    let told = c.contains_key.ensures in
    subst (λ (ps : List (List ℕ × g.row.T.Denot)). IsTrue c.contains_key.result ↔ Contains (names ps) c.args.name.now)
    c.self.view_is
    (λ t. decides.0 (sym told ∙ t), λ w. told ∙ decides.1 w)
