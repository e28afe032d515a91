-- What the reader keeps of a definition, as what it stands for: a name's tree for the item.
use Rattle.std.specs.Prelude.{ℕ, ◌<◌, List, map, All}
use Rattle.sexp_read.specs.Tree.{Tree}
use Rattle.spec_reader.specs.declared.form.Param as param
use Rattle.spec_reader.specs.declared.form.Parts as parts
use Rattle.spec_reader.specs.Form.{Param, Parts}

abbrev pub param_by : (ℕ → Tree) → param.Param → Param
param_by tree p = record { name = tree p.name; kind = p.kind; sort = p.sort }

abbrev pub params_by : (ℕ → Tree) → List param.Param → List Param
params_by tree ps = map (param_by tree) ps

abbrev pub parts_by : (ℕ → Tree) → parts.Parts → Parts
parts_by tree p = record {
  is_goal = p.is_goal;
  name = tree p.name;
  args = params_by tree p.args.items;
  attrs = params_by tree p.attrs.items;
  cost = p.cost;
  results = map tree p.results.now;
}

-- each item of a definition is one of so many
pub record AreWithin (size : ℕ) (p : parts.Parts) : Type 0 where
  pub name : p.name < size
  pub args : All (λ (q : param.Param). q.name < size) p.args.items
  pub attrs : All (λ (q : param.Param). q.name < size) p.attrs.items
  pub results : All (λ item. item < size) p.results.now
