use Rattle.std.proofs.Common.{map}
use Rattle.spec_reader.proofs.NameLemmas.{has-name}
use Rattle.spec_reader.proofs.names.has_name.Goals as goal

pub returns : goal.returns
returns g c = has-name c.contains.result c.args.name.now (map (λ e. e.0) c.args.table.now) c.contains.ensures
