use Rattle.std.proofs.Common.{◌≡◌, ◌∙◌, ◌<◌, List, [], ◌++◌, All, length, sym, ap, subst, true}
use Rattle.std.proofs.lemmas.List.Elements.{All-append}
use Rattle.std.proofs.lemmas.Result.{IfOk-weaker}
use Rattle.sexp_read.specs.Forest.{tree_at}
use Rattle.sexp_read.specs.Tree.{Tree}
use Rattle.term_text.specs.Scope.{terms_under, AreNamesIn}
use Rattle.spec_reader.specs.declared.form.Param.{Param}
use Rattle.spec_reader.specs.Form.{is_name_in}
use Rattle.spec_reader.specs.Parts.{params_by, parts_by}
use Rattle.spec_reader.specs.Walk.{names_fault, scope_from, params_of}
use Rattle.spec_reader.proofs.FormedLemmas.{parts-formed}
use Rattle.spec_reader.proofs.ScopeLemmas.{bound, bound-named, params-joined, bound-trees}
use Rattle.spec_reader.proofs.scope.scope_of.Goals as goal

pub scope_from-requires-clause-params_in : goal.scope_from-requires-clause-params_in
scope_from-requires-clause-params_in c =
    let size = length c.args.forest.now.items in
    let args = c.args.parts.now.args.items in
    let attrs = c.args.parts.now.attrs.items in
    let items : c.as_slice-3.result.now ≡ args ++ attrs =
    c.as_slice-3.ensures.value ∙ c.in_ok-params.ensures
    ∙ (λ i. c.as_slice.ensures.value i ++ c.as_slice-2.ensures.value i) in
    subst (λ (qs : List Param). All (λ q. q.name < size) qs) (sym items)
    (All-append (λ (q : Param). q.name < size) args attrs c.requires.parts_in.args c.requires.parts_in.attrs)

pub scope_from-requires-clause-named : goal.scope_from-requires-clause-named
scope_from-requires-clause-named c =
    let tree = tree_at c.args.bytes.now c.args.forest.now.items in
    let parts = c.args.parts.now in
    let items : c.as_slice-3.result.now ≡ parts.args.items ++ parts.attrs.items =
    c.as_slice-3.ensures.value ∙ c.in_ok-params.ensures
    ∙ (λ i. c.as_slice.ensures.value i ++ c.as_slice-2.ensures.value i) in
    subst (λ (qs : List Param). All (λ q. is_name_in (tree q.name) ≡ true) qs) (sym items)
    (bound-named tree parts (parts-formed c.requires.formed.0 (parts_by tree parts) c.requires.formed.1))

pub scope_from-requires-clause-few : goal.scope_from-requires-clause-few
scope_from-requires-clause-few c =
    let tree = tree_at c.args.bytes.now c.args.forest.now.items in
    let parts = c.args.parts.now in
    let items : c.as_slice-3.result.now ≡ parts.args.items ++ parts.attrs.items =
    c.as_slice-3.ensures.value ∙ c.in_ok-params.ensures
    ∙ (λ i. c.as_slice.ensures.value i ++ c.as_slice-2.ensures.value i) in
    ap (λ (qs : List Param). names_fault [] (bound tree qs)) items
    ∙ ap (λ (ts : List Tree). names_fault [] ts) (bound-trees tree parts.args.items parts.attrs.items)
    ∙ c.requires.few

pub returns-clause-scope : goal.returns-clause-scope
returns-clause-scope c =
    let tree = tree_at c.args.bytes.now c.args.forest.now.items in
    let parts = c.args.parts.now in
    let items : c.as_slice-3.result.now ≡ parts.args.items ++ parts.attrs.items =
    c.as_slice-3.ensures.value ∙ c.in_ok-params.ensures
    ∙ (λ i. c.as_slice.ensures.value i ++ c.as_slice-2.ensures.value i) in
    let same = ap (params_by tree) items ∙ params-joined tree parts.args.items parts.attrs.items in
    let table = c.scope_from.new.terms in
    IfOk-weaker c.scope_from.result _
    (λ names. AreNamesIn table names × (terms_under table names ≡ scope_from 0 (params_of (parts_by tree parts))))
    (λ names h. (h.0, h.1 ∙ ap (scope_from 0) same)) c.scope_from.ensures.scope
