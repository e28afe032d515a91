-- How far a reader has come, for its own functions: the tokens so far as trees that grow.
use Rattle.std.specs.Prelude.{◌≡◌, ℕ, ◌+◌, ◌<◌, true, List, [], ◌∷◌, ◌++◌, length, drop, slice_get, slice_range, Some}
use Rattle.std.specs.Prelude.{◌⊎◌}
use Rattle.sexp_read.specs.declared.forest.Item.{Item}
use Rattle.sexp_read.specs.declared.forest.Forest.{Forest}
use Rattle.sexp_read.specs.declared.fault.SexpFault.{SexpFault}
use Rattle.sexp_read.specs.declared.fault.SexpFault.TheVariants.{Unclosed, NoMemory}
use Rattle.sexp_read.specs.declared.token.Class.{Class}
use Rattle.sexp_read.specs.declared.builder.Builder.{Builder}
use Rattle.sexp_read.specs.declared.builder.OpenList.{OpenList}
use Rattle.sexp_read.specs.declared.reader.Reader.{Reader}
use Rattle.sexp_read.specs.declared.reader.Pending.{Pending}
use Rattle.sexp_read.specs.declared.reader.Pending.TheVariants as pending
use Rattle.sexp_read.specs.Token.{is_text_byte, class_of, Token, Open, Close, Atom, Mode, Between, Comment, Within}
use Rattle.sexp_read.specs.Token.{tokens, tokens_from}
use Rattle.sexp_read.specs.Tree.{Trees, flatten, size, depth_limit}
use Rattle.sexp_read.specs.Forest.{atom, places, items_of}
use Rattle.sexp_read.specs.Fault.{open_lists, IsFault}

-- The trees so far: the outermost ones, and within them a list that is open, with its place and the
-- members that are whole.
pub data Partial : Type 0 where
  Root : Trees → Partial
  Inside : Partial → ℕ → Trees → Partial

abbrev pub spelled : Partial → List Token
spelled (Root trees) = flatten trees
spelled (Inside outer place members) = spelled outer ++ Open place ∷ flatten members

-- how many items these are
abbrev pub count : Partial → ℕ
count (Root trees) = size trees
count (Inside outer place members) = count outer + 1 + size members

abbrev pub items_in : Partial → List Item
items_in (Root trees) = items_of 0 trees
items_in (Inside outer place members) = items_in outer ++ atom place place ∷ items_of (count outer + 1) members

abbrev pub open_in : Partial → List OpenList
open_in (Root trees) = []
open_in (Inside outer place members) =
    open_in outer ++ record { number = count outer; from = place; members = places (count outer + 1) members } ∷ []

abbrev pub outermost_in : Partial → List ℕ
outermost_in (Root trees) = places 0 trees
outermost_in (Inside outer place members) = outermost_in outer

-- no list ends that is not open, and none is nested too deep, after lists that are open
abbrev pub IsFaultless : List ℕ → List Token → Type 0
IsFaultless opened [] = Unit {0}
IsFaultless opened (Open place ∷ ts) = (length opened < depth_limit) × IsFaultless (place ∷ opened) ts
IsFaultless [] (Close to ∷ ts) = ⊥
IsFaultless (_ ∷ opened) (Close to ∷ ts) = IsFaultless opened ts
IsFaultless opened (Atom first word ∷ ts) = IsFaultless opened ts

-- a builder holds what these tokens spell
pub record HasBuilt (ts : List Token) (builder : Builder) : Type 0 where
  pub trees : Partial
  pub spelling : spelled trees ≡ ts
  pub faultless : IsFaultless [] ts
  pub items : builder.items.items ≡ items_in trees
  pub opened : builder.unclosed.items ≡ open_in trees
  pub outermost : builder.outermost ≡ outermost_in trees

abbrev pub IsBuilt : Builder → Type 0
IsBuilt builder = (ts : List Token) × HasBuilt ts builder

abbrev pub with_member : OpenList → ℕ → OpenList
with_member opened number = record opened { members = opened.members ++ number ∷ [] }

-- the number has become a member of the innermost open list, or an outermost one
pub record AddsMember (old new : Builder) (number : ℕ) : Type 0 where
  pub items : new.items.items ≡ old.items.items
  pub outer : old.unclosed.items ≡ [] → (new.unclosed.items ≡ []) × (new.outermost ≡ old.outermost ++ number ∷ [])
  pub inner : (front : List OpenList) (last : OpenList) → old.unclosed.items ≡ front ++ last ∷ [] →
      (new.unclosed.items ≡ front ++ with_member last number ∷ []) × (new.outermost ≡ old.outermost)

-- what the bytes before a place leave open
abbrev pub mode_of : List ℕ → ℕ → Pending → Mode
mode_of bytes place pending.Nothing = Between
mode_of bytes place pending.Comment = Comment
mode_of bytes place (pending.Word first) = Within first (slice_range bytes first place)

abbrev pub BeganBefore : ℕ → Pending → Type 0
BeganBefore place (pending.Word first) = first < place
BeganBefore place _ = Unit {0}

-- a reader has read the bytes before a place
pub record HasRead (bytes : List ℕ) (place : ℕ) (reader : Reader) : Type 0 where
  pub ts : List Token
  pub built : HasBuilt ts reader.builder
  pub spelling : tokens bytes ≡ ts ++ tokens_from (mode_of bytes place reader.pending) place (drop place bytes)
  pub began : BeganBefore place reader.pending
  pub text : (k b : ℕ) → k < place → slice_get bytes k ≡ Some b → is_text_byte b ≡ true

-- a byte of a text stands at a place, and does this outside a comment
pub record HasClass (bytes : List ℕ) (place : ℕ) (class : Class) : Type 0 where
  pub byte : ℕ
  pub here : slice_get bytes place ≡ Some byte
  pub of_class : class_of byte ≡ class
  pub text : is_text_byte byte ≡ true

-- a reader goes on over a byte of a class at a place, or refuses it
abbrev pub ReadsOn : Reader → Class → ℕ → Reader → Type 0
ReadsOn old class place new = (bytes : List ℕ) → HasRead bytes place old → HasClass bytes place class
    → HasRead bytes (place + 1) new

abbrev pub Refuses : Reader → Class → ℕ → SexpFault → Type 0
Refuses old class place fault =
    (fault ≡ NoMemory) ⊎ ((bytes : List ℕ) → HasRead bytes place old → HasClass bytes place class → IsFault bytes fault)

-- a forest holds the trees that these tokens spell
pub record Holds (ts : List Token) (forest : Forest) : Type 0 where
  pub trees : Trees
  pub spelling : flatten trees ≡ ts
  pub items : forest.items ≡ items_of 0 trees
  pub outermost : forest.outermost ≡ places 0 trees

-- a list is open after these tokens, and the fault names the outermost one
abbrev pub LeavesOpen : List Token → SexpFault → Type 0
LeavesOpen ts (Unclosed place) = (inner : List ℕ) × (open_lists ts ≡ inner ++ place ∷ [])
LeavesOpen ts _ = ⊥
