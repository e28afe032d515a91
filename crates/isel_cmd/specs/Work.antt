-- What a library is as private functions hand it on.
use Rattle.std.specs.Prelude.{ℕ}
use Rattle.std.specs.String.{string_bytes}
use Rattle.isel_spec.specs.File.{File}
use Rattle.isel_cmd.specs.declared.library.Library.{Library}
use Rattle.isel_cmd.specs.Status.{done_status}
use Rattle.isel_cmd.specs.Program.{IsLibraryText}

-- it is the text of a file's answers, and tells whether a claim is listed as undecided
abbrev pub IsTextOf : File → ℕ → ℕ → Library → Type 0
IsTextOf f bound budget l = IsLibraryText f bound budget (done_status l.is_open) (string_bytes l.text)
