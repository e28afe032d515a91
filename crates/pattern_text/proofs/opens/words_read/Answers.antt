use Rattle.std.proofs.Common.{map}
use Rattle.sexp_read.specs.Forest.{tree_at}
use Rattle.isel_spec.specs.Spec.{file}
use Rattle.pattern_text.specs.Rules.{ops_read}
use Rattle.pattern_text.proofs.OpenLemmas.{words-told, words-stopped}
use Rattle.pattern_text.proofs.opens.words_read.Goals as goal

pub returns-in-Ok : goal.returns-in-Ok
returns-in-Ok c =
    let tree = tree_at c.args.bytes.now c.args.forest.now.items in
    words-told (ops_read (file c.args.spec.now) (map tree c.args.words.now)) c.args.span c.in-Ok.ops.items
    c.as_slice.result.now c.multi_read.result c.in-Ok.ensures c.as_slice.ensures.value c.multi_read.ensures

pub returns-in-Err : goal.returns-in-Err
returns-in-Err c =
    let tree = tree_at c.args.bytes.now c.args.forest.now.items in
    words-stopped (ops_read (file c.args.spec.now) (map tree c.args.words.now)) c.args.span c.in-Err.fault
    c.in-Err.ensures
