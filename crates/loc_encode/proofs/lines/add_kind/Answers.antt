use Rattle.std.proofs.Common.{◌≡◌, ◌∙◌, ap, sym, map, None}
use Rattle.std.specs.Prelude.{position}
use Rattle.std.proofs.lemmas.List.Elements.{All-set, recursion_from_All}
use Rattle.list_lemmas.proofs.Lookups.{All-slice_get}
use Rattle.loc_encode.specs.declared.taking.Named.{Named}
use Rattle.loc_encode.specs.Lines.{sourced, IsIn, is_named}
use Rattle.loc_encode.proofs.GrowthLemmas.{sources_keep, all-stay}
use Rattle.loc_encode.proofs.KindLemmas.{IsFound, found-at, alone, nowhere, push_kind, set_kind, kind-sorts, kind-in}
use Rattle.loc_encode.proofs.KindLemmas.{merged-made}
use Rattle.loc_encode.proofs.lines.add_kind.Goals as goal

pub returns-in_default-clause-found : goal.returns-in_default-clause-found
returns-in_default-clause-found c =
    let table = c.args.terms.now in
    let line = c.args.line in
    let kind = c.args.kind in
    let found = c.args.found.now.items in
    let d : Named = alone line kind in
    let none : position (is_named line kind) found ≡ None =
    ap (position (is_named line kind)) (sym c.as_slice.ensures.value) ∙ sym c.place_of.ensures ∙ c.in_default.is in
    ap (map (sourced table)) c.in_ok-push.ensures.items
    ∙ push_kind table line kind found d (nowhere (is_named line kind) found d none)

pub choice-requires-clause-sort : goal.choice-requires-clause-sort
choice-requires-clause-sort c =
    let line = c.args.line in
    let kind = c.args.kind in
    let at : IsFound line kind c.args.found.now.items c.in-Some.place c.index-named.result.now =
    found-at line kind c.args.found.now.items c.as_slice.result.now c.in-Some.place c.index-named.result.now
    c.as_slice.ensures.value (sym c.place_of.ensures ∙ c.in-Some.is) c.index-named.ensures in
    kind-sorts c.args.terms.now line kind c.index-named.result.now at.test c.requires.kind
    (All-slice_get (IsIn c.args.terms.now) c.args.found.now.items c.in-Some.place c.index-named.result.now
    c.requires.found at.at)

pub returns-clause-found : goal.returns-clause-found
returns-clause-found c =
    let old = c.args.terms.now in
    let new = c.choice.new.terms in
    let line = c.args.line in
    let kind = c.args.kind in
    let e = c.index-named.result.now in
    let at : IsFound line kind c.args.found.now.items c.in-Some.place e =
    found-at line kind c.args.found.now.items c.as_slice.result.now c.in-Some.place e c.as_slice.ensures.value
    (sym c.place_of.ensures ∙ c.in-Some.is) c.index-named.ensures in
    set_kind old new c.choice.ensures.extends line kind c.args.found.now.items c.in-Some.place e _
    (recursion_from_All (IsIn old) c.args.found.now.items c.requires.found) at.before at.at at.test
    (merged-made old new line kind e c.in_ok-term.term c.in_ok-term.ensures.term)

pub returns-clause-there : goal.returns-clause-there
returns-clause-there c =
    let old = c.args.terms.now in
    let new = c.choice.new.terms in
    let line = c.args.line in
    let kind = c.args.kind in
    let found = c.args.found.now.items in
    let e = c.index-named.result.now in
    let at : IsFound line kind found c.in-Some.place e =
    found-at line kind found c.as_slice.result.now c.in-Some.place e c.as_slice.ensures.value
    (sym c.place_of.ensures ∙ c.in-Some.is) c.index-named.ensures in
    All-set (IsIn new) found c.in-Some.place _
    (kind-in old new line kind e c.in_ok-term.term at.test c.requires.kind
    (All-slice_get (IsIn old) found c.in-Some.place e c.requires.found at.at)
    c.choice.ensures.extends c.in_ok-term.ensures.within c.in_ok-term.ensures.term)
    (all-stay IsIn sourced sources_keep old new c.choice.ensures.extends found c.requires.found)
