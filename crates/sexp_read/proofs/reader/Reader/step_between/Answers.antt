use Rattle.std.proofs.Common.{◌+◌, [], ◌∷◌, refl, ap, subst, arith}
use Rattle.std.proofs.lemmas.Result.{on_ok_weaker, IfErr-weaker}
use Rattle.sexp_read.specs.Token.{Open, Close, Within}
use Rattle.sexp_read.specs.Progress.{HasClass}
use Rattle.sexp_read.specs.declared.reader.Pending.TheVariants as pending
use Rattle.sexp_read.specs.declared.token.Class.TheVariants as class
use Rattle.sexp_read.proofs.ReaderLemmas.{read-more, read-same, refuses-deep, refuses-stray, reads-blank}
use Rattle.list_lemmas.proofs.Lookups.{slice_range-one}
use Rattle.sexp_read.proofs.reader.Reader.step_between.Goals as goal

pub returns-in-Left-clause-ok : goal.returns-in-Left-clause-ok
returns-in-Left-clause-ok c =
    let place = c.args.place in
    on_ok_weaker c.open_list.result
    (λ builds bytes read here. read-more bytes place c.args.self.now _ pending.Nothing class.Left (Open place ∷ []) read
    (subst (HasClass bytes place) c.in-Left.is here)
    c.requires.nothing refl builds pending.Nothing c.requires.nothing refl tt)
    c.open_list.ensures.ok

pub returns-in-Right-clause-ok : goal.returns-in-Right-clause-ok
returns-in-Right-clause-ok c =
    let place = c.args.place in
    on_ok_weaker c.close_list.result
    (λ builds bytes read here. read-more bytes place c.args.self.now _ pending.Nothing class.Right
    (Close (place + 1) ∷ []) read (subst (HasClass bytes place) c.in-Right.is here)
    c.requires.nothing refl builds pending.Nothing c.requires.nothing refl tt)
    c.close_list.ensures.ok

pub returns-in-Left-clause-err : goal.returns-in-Left-clause-err
returns-in-Left-clause-err c =
    IfErr-weaker c.open_list.result _ _
    (λ fault why. refuses-deep c.args.self.now c.args.class c.args.place fault c.in-Left.is c.requires.nothing why)
    c.open_list.ensures.err

pub returns-in-Right-clause-err : goal.returns-in-Right-clause-err
returns-in-Right-clause-err c =
    IfErr-weaker c.close_list.result _ _
    (λ fault why. refuses-stray c.args.self.now c.args.class c.args.place fault c.in-Right.is c.requires.nothing
    why) c.close_list.ensures.err

pub returns-in-Semicolon-clause-ok : goal.returns-in-Semicolon-clause-ok
returns-in-Semicolon-clause-ok c = λ bytes read here.
    read-same bytes c.args.place c.args.self.now _ pending.Nothing class.Semicolon read
    (subst (HasClass bytes c.args.place) c.in-Semicolon.is here)
    c.requires.nothing refl refl pending.Comment refl refl tt

pub returns-in-Letter-clause-ok : goal.returns-in-Letter-clause-ok
returns-in-Letter-clause-ok c = λ bytes read here.
    let place = c.args.place in
    read-same bytes place c.args.self.now _ pending.Nothing class.Letter read
    (subst (HasClass bytes place) c.in-Letter.is here)
    c.requires.nothing refl refl (pending.Word place) refl
    (ap (Within place) (slice_range-one bytes place here.byte here.here)) (omega arith)

pub returns-in-Blank-clause-ok : goal.returns-in-Blank-clause-ok
returns-in-Blank-clause-ok c = reads-blank c.args.self.now c.args.class c.args.place c.requires.nothing c.in-Blank.is
