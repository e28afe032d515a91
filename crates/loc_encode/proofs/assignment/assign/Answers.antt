use Rattle.loc_encode.proofs.AssignLemmas.{fits-term}
use Rattle.loc_encode.proofs.ClaimLemmas.{has_claim}
use Rattle.loc_encode.proofs.DifferenceLemmas.{limits-by_pattern}
use Rattle.loc_encode.proofs.LawLemmas.{assigned}
use Rattle.loc_encode.proofs.PatternLemmas.{stands-only}
use Rattle.loc_encode.proofs.assignment.assign.Goals as goal

pub returns-clause-stands : goal.returns-clause-stands
returns-clause-stands c = λ claim is.
    assigned c.args.spec.now c.args.encoded.now.goal c.args.encoded.now.multi c.args.pattern.now
    c.in_ok-values.values.items c.from_vec.result c.len.ensures.table c.requires.given c.requires.pattern
    c.in_ok-values.ensures c.from_vec.ensures claim is

pub returns-clause-fits : goal.returns-clause-fits
returns-clause-fits c =
    let found = has_claim c.args.spec.now c.args.encoded.now.goal c.args.encoded.now.multi c.requires.given.place in
    let stands =
    assigned c.args.spec.now c.args.encoded.now.goal c.args.encoded.now.multi c.args.pattern.now
    c.in_ok-values.values.items c.from_vec.result c.len.ensures.table c.requires.given c.requires.pattern
    c.in_ok-values.ensures c.from_vec.ensures found.0 found.1 in
    let right = c.requires.right found.0 found.1 in
    fits-term found.0 c.from_vec.result c.args.terms.now c.args.encoded.now.formula right.over stands.fits

pub returns-clause-holds : goal.returns-clause-holds
returns-clause-holds c = λ claim is sought canonical.
    let stands =
    assigned c.args.spec.now c.args.encoded.now.goal c.args.encoded.now.multi c.args.pattern.now
    c.in_ok-values.values.items c.from_vec.result c.len.ensures.table c.requires.given c.requires.pattern
    c.in_ok-values.ensures c.from_vec.ensures claim is in
    let right = c.requires.right claim is in
    right.complete c.from_vec.result c.args.pattern.now sought canonical stands

pub returns-clause-only : goal.returns-clause-only
returns-clause-only c = λ claim q is pattern stands.
    let own = c.requires.pattern claim is in
    let limits =
    limits-by_pattern c.args.spec.now c.args.encoded.now.goal c.args.encoded.now.multi claim c.args.pattern.now
    c.len.ensures.table is own in
    stands-only claim limits c.from_vec.result q c.args.pattern.now pattern own stands
    (assigned c.args.spec.now c.args.encoded.now.goal c.args.encoded.now.multi c.args.pattern.now
    c.in_ok-values.values.items c.from_vec.result c.len.ensures.table c.requires.given c.requires.pattern
    c.in_ok-values.ensures c.from_vec.ensures claim is)
