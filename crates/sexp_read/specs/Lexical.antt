-- The lexical rules of a text, by place: where its comments, words and parentheses stand. They define the tokens
-- of a text, and `tokens` computes them.
use Rattle.std.specs.Prelude.{◌≡◌, ℕ, ◌+◌, ◌<◌, ◌≤◌, ◌↔◌, List, length, Some, slice_get, slice_range, option_map}
use Rattle.std.specs.Prelude.{AllPairs, Contains}
use Rattle.sexp_read.specs.declared.token.Class.{Class}
use Rattle.sexp_read.specs.declared.token.Class.TheVariants.{LineFeed, Semicolon, Left, Right, Letter}
use Rattle.sexp_read.specs.Token.{class_of, Token, Open, Close, Atom}

-- a byte of a class stands at a place
abbrev pub IsAt : List ℕ → ℕ → Class → Type 0
IsAt bytes place class = option_map class_of (slice_get bytes place) ≡ Some class

-- A `;` begins a comment up to the next line feed or the end of the text: a place is in a comment where a `;`
-- stands at it or before it, and no line feed from there up to the place itself. So the `;` is in the comment, and
-- the line feed after it is not.
abbrev pub IsInComment : List ℕ → ℕ → Type 0
IsInComment bytes place =
    (first : ℕ) × (first ≤ place) × IsAt bytes first Semicolon
    × ((k : ℕ) → first ≤ k → k ≤ place → ¬ IsAt bytes k LineFeed)

-- a byte of a class stands at a place outside of comments: in a comment `(`, `)` and `;` have no meaning
abbrev pub IsOutside : List ℕ → ℕ → Class → Type 0
IsOutside bytes place class = IsAt bytes place class × (¬ IsInComment bytes place)

-- a byte of a word
abbrev pub IsLetter : List ℕ → ℕ → Type 0
IsLetter bytes place = IsOutside bytes place Letter

-- The places from one up to another, without this, hold a word: a longest run of letters.
pub record IsWord (bytes : List ℕ) (first to : ℕ) : Type 0 where
  pub not_empty : first < to
  pub letters : (k : ℕ) → first ≤ k → k < to → IsLetter bytes k
  pub none_before : (k : ℕ) → k + 1 ≡ first → ¬ IsLetter bytes k
  pub none_after : ¬ IsLetter bytes to

-- a token stands in a text: a `(` or a `)` outside of comments, or a word with its bytes
abbrev pub IsToken : List ℕ → Token → Type 0
IsToken bytes (Open place) = IsOutside bytes place Left
IsToken bytes (Close to) = (place : ℕ) × (to ≡ place + 1) × IsOutside bytes place Right
IsToken bytes (Atom first word) = (to : ℕ) × IsWord bytes first to × (word ≡ slice_range bytes first to)

-- the place after a token's last byte
abbrev pub end_of : Token → ℕ
end_of (Open place) = place + 1
end_of (Close to) = to
end_of (Atom first word) = first + length word

-- These are the tokens of a text: all that stand in it and no others, from left to right.
pub record AreTokens (bytes : List ℕ) (ts : List Token) : Type 0 where
  pub each : (token : Token) → Contains ts token ↔ IsToken bytes token
  pub rising : AllPairs (λ token later. end_of token < end_of later) ts
