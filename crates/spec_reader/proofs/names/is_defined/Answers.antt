use Rattle.std.proofs.Common.{map}
use Rattle.std.specs.List.{list_any}
use Rattle.std.specs.Str.{bytes_eq}
use Rattle.isel_spec.specs.Spec.{file}
use Rattle.spec_reader.specs.Walk.{defined}
use Rattle.spec_reader.proofs.NameLemmas.{is-defined, or-then, or-else}
use Rattle.spec_reader.proofs.names.is_defined.Goals as goal

pub returns-then-has_name : goal.returns-then-has_name
returns-then-has_name c =
    let has = list_any (bytes_eq c.args.name.now) in
    or-then c.has_name.result (has (map (λ e. e.0) c.args.spec.now.ops)) (has (map (λ e. e.0) c.args.spec.now.goals))
    (has (defined (file c.args.spec.now))) c.has_name.ensures c.if-has_name.true
    (is-defined c.args.spec.now c.args.name.now)

pub returns-else-has_name : goal.returns-else-has_name
returns-else-has_name c =
    let has = list_any (bytes_eq c.args.name.now) in
    or-else c.has_name.result (has (map (λ e. e.0) c.args.spec.now.ops)) c.has_name-else-has_name.result
    (has (map (λ e. e.0) c.args.spec.now.goals)) (has (defined (file c.args.spec.now))) c.has_name.ensures
    c.if-has_name.false c.has_name-else-has_name.ensures (is-defined c.args.spec.now c.args.name.now)
