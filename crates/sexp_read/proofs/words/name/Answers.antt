use Rattle.std.proofs.Common.{sym, ◌∙◌}
use Rattle.std.proofs.lemmas.Str.{IsUtf8-from_ascii}
use Rattle.sexp_read.proofs.NameLemmas.{name-ascii, text-of-name}
use Rattle.sexp_read.proofs.words.name.Goals as goal

pub returns : goal.returns
returns c =
    let known = sym c.is_name.ensures ∙ c.if-not-is_name.false in
    rw (c.ok.ensures.value, known)
    (text-of-name c.args.word.now _ c.from_utf8.result
    (IsUtf8-from_ascii _ (name-ascii c.args.word.now known)) c.from_utf8.ensures.cases)
