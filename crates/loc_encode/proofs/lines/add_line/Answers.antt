use Rattle.bv_terms.proofs.GraftLemmas.{Extends-further}
use Rattle.isel_spec.specs.Spec.{file}
use Rattle.loc_encode.proofs.KindLemmas.{line-appended, line-there}
use Rattle.loc_encode.proofs.lines.add_line.Goals as goal

pub returns-clause-sources : goal.returns-clause-sources
returns-clause-sources c =
    let old = c.args.terms.now in
    line-appended (file c.args.spec.now) c.args.ops.now old c.line_kinds.new.terms c.line_sources.new.terms c.args.line
    c.args.sources.now.items c.as_slice.result.now c.in_ok-found.found.items c.append.new.self.items
    c.in_ok-kinds.kinds.items c.deref.result.now
    (Extends-further old c.line_kinds.new.terms c.line_sources.new.terms c.line_kinds.ensures.extends
    c.line_sources.ensures.extends) c.requires.sources c.as_slice.ensures.value c.deref.ensures.value
    c.in_ok-kinds.ensures.kinds c.in_ok-found.ensures.sources c.append.result c.append.ensures.items

pub returns-clause-there : goal.returns-clause-there
returns-clause-there c =
    let old = c.args.terms.now in
    line-there old c.line_sources.new.terms c.args.sources.now.items c.in_ok-found.found.items c.append.new.self.items
    (Extends-further old c.line_kinds.new.terms c.line_sources.new.terms c.line_kinds.ensures.extends
    c.line_sources.ensures.extends) c.requires.sources c.in_ok-found.ensures.there c.append.result
    c.append.ensures.items
