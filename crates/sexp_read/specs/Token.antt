-- The tokens of a text, parentheses and words outside of comments, as they are computed byte by byte. `Lexical` says
-- by place what they are.
use Rattle.std.specs.Prelude.{ℕ, ◌+◌, ◌==◌, ◌&&◌, ◌||◌, nat_le, Bool, if◌then◌else◌, List, [], ◌∷◌, ◌++◌}
use Rattle.sexp_read.specs.declared.token.Class.{Class}
use Rattle.sexp_read.specs.declared.token.Class.TheVariants.{Blank, LineFeed, Semicolon, Left, Right, Letter}

-- A byte of a text: a printable ASCII character, a tab, a line feed or a carriage return.
abbrev pub is_text_byte : ℕ → Bool
is_text_byte b = (nat_le 32 b && nat_le b 126) || (b == 9 || (b == 10 || b == 13))

-- what a byte does outside a comment: any byte with no other part to play is a letter of a word
abbrev pub class_of : ℕ → Class
class_of b =
    if b == 40 then Left
    else if b == 41 then Right
    else if b == 59 then Semicolon
    else if b == 10 then LineFeed
    else if b == 32 || (b == 9 || b == 13) then Blank
    else Letter

-- A list's begin, with the place of its `(`; a list's end, with the place after its `)`; and a word,
-- with the place of its first byte and its bytes.
pub data Token : Type 0 where
  Open : ℕ → Token
  Close : ℕ → Token
  Atom : ℕ → List ℕ → Token

-- What the bytes before a place leave open: nothing, a comment, or a word, of which so much has come.
pub data Mode : Type 0 where
  Between : Mode
  Comment : Mode
  Within : ℕ → List ℕ → Mode

-- after one more byte, at a place
abbrev pub mode_after : Mode → Class → ℕ → ℕ → Mode
mode_after Comment LineFeed place b = Between
mode_after Comment _ place b = Comment
mode_after (Within first word) Letter place b = Within first (word ++ b ∷ [])
mode_after Between Letter place b = Within place (b ∷ [])
mode_after _ Semicolon place b = Comment
mode_after _ _ place b = Between

-- the word that ends where it cannot go on
abbrev pub word_in : Mode → List Token
word_in (Within first word) = Atom first word ∷ []
word_in _ = []

-- the tokens that a byte at a place completes
abbrev pub tokens_at : Mode → Class → ℕ → List Token
tokens_at Comment _ place = []
tokens_at mode Letter place = []
tokens_at mode Left place = word_in mode ++ Open place ∷ []
tokens_at mode Right place = word_in mode ++ Close (place + 1) ∷ []
tokens_at mode _ place = word_in mode

-- the tokens of the bytes from a place on
abbrev pub tokens_from : Mode → ℕ → List ℕ → List Token
tokens_from mode place [] = word_in mode
tokens_from mode place (b ∷ bs) =
    tokens_at mode (class_of b) place ++ tokens_from (mode_after mode (class_of b) place b) (place + 1) bs

abbrev pub tokens : List ℕ → List Token
tokens bytes = tokens_from Between 0 bytes
