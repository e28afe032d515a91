use Rattle.std.proofs.Common.{◌<◌, refl}
use Rattle.std.proofs.lemmas.List.Elements.{All-same}
use Rattle.std.proofs.lemmas.Result.{on_ok_weaker}
use Rattle.isel_spec.specs.Spec.{file}
use Rattle.pattern_core.proofs.TotalLemmas.{IsLimited-from_spec}
use Rattle.plain_search.specs.Extent.{attribute_bits_of}
use Rattle.plain_search.proofs.SiftLemmas.{All-few, patterns-from_sifted}
use Rattle.plain_search.proofs.sifting.each_pattern.Goals as goal

pub sift_after-requires-clause-few_bits : goal.sift_after-requires-clause-few_bits
sift_after-requires-clause-few_bits g c =
    let bits = attribute_bits_of (file c.args.spec.now) in
    All-same (λ op. bits op < 64) c.ops-ops.result.now c.args.multi.now c.ops-ops.ensures.numbers
    (All-few bits 64 c.args.multi.now c.requires.few_bits)

pub returns-clause-patterns : goal.returns-clause-patterns
returns-clause-patterns g c = λ x there.
    let f = file c.args.spec.now in
    on_ok_weaker c.sift_after.result (λ sifts.
    patterns-from_sifted g.S.Sieve.takes f x c.args.sieve.now c.sift_after.new.sieve _ c.new-nodes.result.items
    c.ops-ops.result.now c.args.multi.now (IsLimited-from_spec c.args.spec.now c.args.goal x c.len.ensures.table there)
    c.ops-ops.ensures.multi.1 refl c.new-nodes.ensures.items c.ops-ops.ensures.numbers (sifts x there))
    c.sift_after.ensures.sifts
