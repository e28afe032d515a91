-- A fault of a text stands at one of its bytes.
use Rattle.std.proofs.Common.{◌≡◌, ℕ, ◌+◌, ◌-◌, ◌<◌, List, [], ◌∷◌, ◌++◌, length, sym, ◌∙◌, subst, arith, ◌⊎◌, inl, inr}
use Rattle.std.specs.List.{AllByRecursion}
use Rattle.std.proofs.lemmas.Option.{slice_get_within}
use Rattle.sexp_read.specs.declared.fault.SexpFault.{SexpFault}
use Rattle.sexp_read.specs.declared.fault.SexpFault.TheVariants.{NotText, Unclosed, Stray, Deep, NoMemory}
use Rattle.sexp_read.specs.Token.{Token, Open, Close, Atom, tokens}
use Rattle.sexp_read.specs.Fault.{open_after, HasToken, IsFault, place_of}
use Rattle.sexp_read.proofs.SpanLemmas.{Spans, tokens-span}

-- a token and what follows it stand in the text too
spans-token : (bytes : List ℕ) (place : ℕ) (before : List Token) (token : Token) (after : List Token)
    → Spans bytes place (before ++ token ∷ after) → (from : ℕ) × Spans bytes from (token ∷ after)
spans-token bytes place [] token after h = (place, h)
spans-token bytes place (Open at ∷ ts) token after h = spans-token bytes (at + 1) ts token after h.2
spans-token bytes place (Close to ∷ ts) token after h = spans-token bytes to ts token after h.2
spans-token bytes place (Atom first word ∷ ts) token after h =
    spans-token bytes (first + length word) ts token after h.3

token-spans : (bytes : List ℕ) (before : List Token) (token : Token) (h : HasToken bytes before token)
    → (from : ℕ) × Spans bytes from (token ∷ h.after)
token-spans bytes before token h =
    spans-token bytes 0 before token h.after (subst (Spans bytes 0) h.spelled (tokens-span bytes))

abbrev AllWithin : List ℕ → List ℕ → Type 0
AllWithin bytes places = AllByRecursion (λ place. place < length bytes) places

-- so do the lists that are open
open-within : (bytes : List ℕ) (place : ℕ) (opened : List ℕ) (ts : List Token) → AllWithin bytes opened
    → Spans bytes place ts → AllWithin bytes (open_after opened ts)
open-within bytes place opened [] h s = h
open-within bytes place opened (Open at ∷ ts) h s =
    open-within bytes (at + 1) (at ∷ opened) ts (slice_get_within bytes at 40 s.1, h) s.2
open-within bytes place [] (Close to ∷ ts) h s = open-within bytes to [] ts tt s.2
open-within bytes place (one ∷ opened) (Close to ∷ ts) h s = open-within bytes to opened ts h.1 s.2
open-within bytes place opened (Atom first word ∷ ts) h s =
    open-within bytes (first + length word) opened ts h s.3

last-within : (bytes inner : List ℕ) (place : ℕ) → AllWithin bytes (inner ++ place ∷ []) → place < length bytes
last-within bytes [] place h = h.0
last-within bytes (one ∷ inner) place h = last-within bytes inner place h.1

pub fault-within : (bytes : List ℕ) (fault : SexpFault) → IsFault bytes fault → place_of fault < length bytes
fault-within bytes (NotText place) h = slice_get_within bytes place h.0.0 h.0.1
fault-within bytes (Unclosed place) h =
    last-within bytes h.1.0 place
    (subst (AllWithin bytes) h.1.1 (open-within bytes 0 [] (tokens bytes) tt (tokens-span bytes)))
fault-within bytes (Stray place) h =
    let spans = token-spans bytes h.0.0 (Close (place + 1)) h.0.1 in
    omega (arith, slice_get_within bytes (place + 1 - 1) 41 spans.1.1)
fault-within bytes (Deep place) h =
    let spans = token-spans bytes h.0.0 (Open place) h.0.1 in
    slice_get_within bytes place 40 spans.1.1
fault-within bytes NoMemory h = absurd h

-- where it is not out of memory
pub stands-within : (bytes : List ℕ) (wrong fault : SexpFault) → (◌≡◌ {A = SexpFault} NoMemory fault → ⊥)
    → (wrong ≡ NoMemory) ⊎ IsFault bytes wrong → wrong ≡ fault → place_of fault < length bytes
stands-within bytes wrong fault other (inl memory) is = absurd (other (sym memory ∙ is))
stands-within bytes wrong fault other (inr h) is = fault-within bytes fault (subst (IsFault bytes) is h)

pub not-unclosed : (place : ℕ) → ◌≡◌ {A = SexpFault} NoMemory (Unclosed place) → ⊥
not-unclosed place h = cc

pub not-stray : (place : ℕ) → ◌≡◌ {A = SexpFault} NoMemory (Stray place) → ⊥
not-stray place h = cc

pub not-deep : (place : ℕ) → ◌≡◌ {A = SexpFault} NoMemory (Deep place) → ⊥
not-deep place h = cc
