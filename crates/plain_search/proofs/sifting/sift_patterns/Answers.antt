use Rattle.std.proofs.Common.{◌∙◌, ap, map, Vec, Global}
use Rattle.isel_spec.specs.Spec.{file}
use Rattle.pattern_core.specs.declared.pattern.Node.{Node}
use Rattle.plain_search.specs.Patterns.{patterns_of}
use Rattle.plain_search.proofs.SiftLemmas.{with_results, sifts-same, patterns-are}
use Rattle.plain_search.proofs.sifting.sift_patterns.Goals as goal

pub returns-clause-sifts : goal.returns-clause-sifts
returns-clause-sifts g c =
    let f = file c.args.spec.now in
    sifts-same g.S.Sieve.takes f c.args.goal c.args.sieve.now c.sift_results.new.sieve
    (λ _. map (with_results c.from_vec.result) c.deref-2.result.now) (λ x. patterns_of f x c.args.nodes.now.items)
    (λ x there.
    patterns-are f x c.args.nodes.now.items c.from_vec.result c.deref.result.now c.deref-2.result.now
    (c.from_vec.ensures ∙ ap (λ (v : Vec Node Global). v.items) c.replace.ensures.value) c.deref.ensures.value
    (c.deref-2.ensures.value ∙ c.in_ok-choices.ensures x there)) c.in_ok-sift_results.ensures.sifts
