-- The map's look-up is the one in the list.
use Rattle.std.proofs.Common.{◌≡◌, List, ℕ, sym, ◌∙◌, subst}
use Rattle.std.specs.Prelude.{option_map}
use Rattle.collections.specs.Named.{named}
use Rattle.collections.proofs.NameLemmas.{named-pairs}
use Rattle.collections.proofs.name_map.NameMap.find.Goals as goal

pub returns : goal.returns
returns g c =
    subst (λ (ps : List (List ℕ × g.row.T.Denot)). option_map (λ value. value.now) c.get.result
    ≡ named ps c.args.name.now) c.self.view_is
    (c.get.ensures.value ∙ sym (named-pairs c.self.inside.entries.entries c.args.name.now))
