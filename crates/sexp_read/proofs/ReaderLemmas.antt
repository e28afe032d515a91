-- What a reader has read after each byte.
use Rattle.std.proofs.Common.{◌≡◌, ◌≢◌, ℕ, ◌+◌, ◌<◌, ◌≤◌, ◌⊎◌, true, false, List, [], ◌∷◌, ◌++◌, length, get_or}
use Rattle.std.proofs.Common.{drop, slice_get, slice_range, Some, Result, Ok, Err, refl, sym, ap, subst, ◌∙◌, inl}
use Rattle.std.proofs.Common.{inr, arith, append_assoc, IfOk, IfErr}
use Rattle.std.specs.Prelude.{IsTrue}
use Rattle.std.specs.List.{list_all}
use Rattle.std.proofs.lemmas.List.{append-nil, drop_more, drop_all}
use Rattle.std.proofs.lemmas.List.Sums.{list_all-from_AllPass}
use Rattle.std.proofs.lemmas.Bool.{cases_lt}
use Rattle.std.proofs.lemmas.Option.{slice_get_within, slice_get-get_or, get_or_from_slice_get}
use Rattle.sexp_read.specs.declared.fault.SexpFault.{SexpFault}
use Rattle.sexp_read.specs.declared.fault.SexpFault.TheVariants.{NotText, Unclosed, Stray, Deep, NoMemory}
use Rattle.sexp_read.specs.declared.forest.Forest.{Forest}
use Rattle.sexp_read.specs.declared.builder.Builder.{Builder}
use Rattle.sexp_read.specs.declared.reader.Reader.{Reader}
use Rattle.sexp_read.specs.declared.reader.Pending.{Pending}
use Rattle.sexp_read.specs.declared.reader.Pending.TheVariants as pending
use Rattle.sexp_read.specs.declared.token.Class.{Class}
use Rattle.sexp_read.specs.declared.token.Class.TheVariants.{Blank, LineFeed, Semicolon, Left, Right, Letter}
use Rattle.sexp_read.specs.Token.{is_text_byte, class_of, Token, Open, Close, Atom, Mode, Between, Comment, Within}
use Rattle.sexp_read.specs.Token.{mode_after, word_in, tokens_at, tokens, tokens_from}
use Rattle.sexp_read.specs.Tree.{flatten, depth_limit}
use Rattle.sexp_read.specs.Forest.{IsReading}
use Rattle.sexp_read.specs.Fault.{open_lists, HasToken, StandsIn, place_of, IsFault, IsButForMemory}
use Rattle.sexp_read.specs.Progress.{IsFaultless, HasBuilt, mode_of, BeganBefore, HasRead, HasClass, ReadsOn, Refuses}
use Rattle.sexp_read.specs.Progress.{Holds, LeavesOpen}
use Rattle.sexp_read.proofs.FaultLemmas.{none-earlier, none-stands, trees-shallow, reading-unique, reading-faultless}
use Rattle.sexp_read.proofs.FaultLemmas.{fault-unique}
use Rattle.list_lemmas.proofs.Lookups.{slice_range-more, slice_range-end}

-- the rest of the bytes begins with the byte at the place
pub rest-at : (bytes : List ℕ) (place b : ℕ) → slice_get bytes place ≡ Some b
    → drop place bytes ≡ b ∷ drop (place + 1) bytes
rest-at bytes place b here =
    drop_more bytes place b (slice_get_within bytes place b here)
    ∙ ap (λ x. x ∷ drop (place + 1) bytes) (get_or_from_slice_get bytes place b b here)

text-more : (bytes : List ℕ) (place b : ℕ) → slice_get bytes place ≡ Some b → is_text_byte b ≡ true →
    ((k c : ℕ) → k < place → slice_get bytes k ≡ Some c → is_text_byte c ≡ true) → (k c : ℕ) → k < place + 1
    → slice_get bytes k ≡ Some c → is_text_byte c ≡ true
text-more bytes place b here text before k c lt e =
    elim (cases_lt k place) [
      | inl lt ↦ before k c lt e
      | inr le ↦
          let at : k ≡ place = omega arith in
          let same : b ≡ c = some-one (sym here ∙ ap (slice_get bytes) (sym at) ∙ e) in
          ap is_text_byte (sym same) ∙ text
    ]
  where
    some-one : {x y : ℕ} → Some x ≡ Some y → x ≡ y
    some-one e = cc

-- nothing has been read
pub read-none : (bytes : List ℕ) (new : Reader) → HasBuilt [] new.builder → new.pending ≡ pending.Nothing
    → HasRead bytes 0 new
read-none bytes new built nothing =
    record {
      ts = [];
      built = built;
      spelling = ap (λ (p : Pending). tokens_from (mode_of bytes 0 p) 0 bytes) (sym nothing);
      began = subst (BeganBefore 0) (sym nothing) tt;
      text = λ k b lt e. absurd (omega arith);
    }

-- a byte more has been read, where the builder takes the tokens that it completes
pub read-more : (bytes : List ℕ) (place : ℕ) (old new : Reader) (before : Pending) (class : Class) (us : List Token) →
    HasRead bytes place old → (h : HasClass bytes place class) → old.pending ≡ before
    → tokens_at (mode_of bytes place before) class place ≡ us →
    ((ts : List Token) → HasBuilt ts old.builder → HasBuilt (ts ++ us) new.builder) →
    (after : Pending) → new.pending ≡ after
    → mode_of bytes (place + 1) after ≡ mode_after (mode_of bytes place before) class place h.byte
    → BeganBefore (place + 1) after →
    HasRead bytes (place + 1) new
read-more bytes place old new before class us read h was us-are builds after is modes began =
    let mode : Mode = mode_of bytes place before in
    let rest : List ℕ = drop (place + 1) bytes in
    let here : drop place bytes ≡ h.byte ∷ rest = rest-at bytes place h.byte h.here in
    let old-mode : mode_of bytes place old.pending ≡ mode = ap (mode_of bytes place) was in
    let new-mode : mode_after mode class place h.byte ≡ mode_of bytes (place + 1) new.pending =
    sym modes ∙ ap (mode_of bytes (place + 1)) (sym is) in
    let next : tokens_from (mode_of bytes place old.pending) place (drop place bytes)
    ≡ us ++ tokens_from (mode_of bytes (place + 1) new.pending) (place + 1) rest =
    ap (λ m. tokens_from m place (drop place bytes)) old-mode ∙ ap (tokens_from mode place) here
    ∙ ap (λ k. tokens_at mode k place ++ tokens_from (mode_after mode k place h.byte) (place + 1) rest) h.of_class
    ∙ ap (λ us. us ++ tokens_from (mode_after mode class place h.byte) (place + 1) rest) us-are
    ∙ ap (λ m. us ++ tokens_from m (place + 1) rest) new-mode in
    record {
      ts = read.ts ++ us;
      built = builds read.ts read.built;
      spelling = read.spelling ∙ ap (λ vs. read.ts ++ vs) next
          ∙ sym (append_assoc read.ts us (tokens_from (mode_of bytes (place + 1) new.pending) (place + 1) rest));
      began = subst (BeganBefore (place + 1)) (sym is) began;
      text = text-more bytes place h.byte h.here h.text read.text;
    }

-- the same, where the byte completes no token
pub read-same : (bytes : List ℕ) (place : ℕ) (old new : Reader) (before : Pending) (class : Class) →
    HasRead bytes place old → (h : HasClass bytes place class) → old.pending ≡ before
    → tokens_at (mode_of bytes place before) class place ≡ [] →
    new.builder ≡ old.builder →
    (after : Pending) → new.pending ≡ after
    → mode_of bytes (place + 1) after ≡ mode_after (mode_of bytes place before) class place h.byte
    → BeganBefore (place + 1) after →
    HasRead bytes (place + 1) new
read-same bytes place old new before class read h was none same after is modes began =
    read-more bytes place old new before class [] read h was none
    (λ ts built. subst (HasBuilt (ts ++ [])) (sym same)
    (subst (λ us. HasBuilt us old.builder) (sym (append-nil ts)) built)) after is modes began

-- the tokens from a place on, where a word ends there
word-ends : (first : ℕ) (word : List ℕ) (place b : ℕ) (rest : List ℕ) (class : Class) → class_of b ≡ class
    → class ≢ Letter →
    tokens_from (Within first word) place (b ∷ rest) ≡ Atom first word ∷ tokens_from Between place (b ∷ rest)
word-ends first word place b rest class e apart =
    ap (λ k. tokens_at (Within first word) k place ++ tokens_from (mode_after (Within first word) k place b)
    (place + 1) rest) e
    ∙ same class apart
    ∙ ap (λ k. Atom first word ∷
    (tokens_at Between k place ++ tokens_from (mode_after Between k place b) (place + 1) rest)) (sym e)
  where
    same : (class : Class) → class ≢ Letter →
        tokens_at (Within first word) class place ++ tokens_from (mode_after (Within first word) class place b)
        (place + 1) rest
        ≡ Atom first word ∷ (tokens_at Between class place ++ tokens_from (mode_after Between class place b)
        (place + 1) rest)
    same Letter apart = absurd (apart refl)
    same Left apart = refl
    same Right apart = refl
    same Semicolon apart = refl
    same _ apart = refl

pub read-word : (bytes : List ℕ) (place : ℕ) (old new : Reader) (first : ℕ) (class : Class) →
    HasRead bytes place old → HasClass bytes place class → class ≢ Letter → old.pending ≡ pending.Word first →
    ((ts : List Token) (word : List ℕ) → first + length word ≡ place → HasBuilt ts old.builder
    → HasBuilt (ts ++ Atom first word ∷ []) new.builder) →
    new.pending ≡ pending.Nothing → HasRead bytes place new
read-word bytes place old new first class read h apart was builds is =
    let word : List ℕ = slice_range bytes first place in
    let began : first < place = subst (BeganBefore place) was read.began in
    let within : place < length bytes = slice_get_within bytes place h.byte h.here in
    let span = slice_range-end bytes first place (omega arith) (omega arith) in
    let here : drop place bytes ≡ h.byte ∷ drop (place + 1) bytes = rest-at bytes place h.byte h.here in
    let next : tokens_from (mode_of bytes place old.pending) place (drop place bytes)
    ≡ Atom first word ∷ tokens_from (mode_of bytes place new.pending) place (drop place bytes) =
    ap (λ (p : Pending). tokens_from (mode_of bytes place p) place (drop place bytes)) was
    ∙ ap (tokens_from (Within first word) place) here
    ∙ word-ends first word place h.byte (drop (place + 1) bytes) class h.of_class apart
    ∙ ap (λ bs. Atom first word ∷ tokens_from Between place bs) (sym here)
    ∙ ap (λ (p : Pending). Atom first word ∷ tokens_from (mode_of bytes place p) place (drop place bytes)) (sym is) in
    record {
      ts = read.ts ++ Atom first word ∷ [];
      built = builds read.ts word span read.built;
      spelling = read.spelling ∙ ap (λ vs. read.ts ++ vs) next
          ∙ sym (append_assoc read.ts (Atom first word ∷ [])
          (tokens_from (mode_of bytes place new.pending) place (drop place bytes)));
      began = subst (BeganBefore place) (sym is) tt;
      text = read.text;
    }

-- at the end of the bytes
pub read-to-end : (bytes : List ℕ) (place : ℕ) (reader : Reader) → length bytes ≡ place
    → (read : HasRead bytes place reader) →
    tokens bytes ≡ read.ts ++ word_in (mode_of bytes place reader.pending)
read-to-end bytes place reader e read =
    read.spelling ∙ ap (λ bs. read.ts ++ tokens_from (mode_of bytes place reader.pending) place bs)
    (drop_all place bytes (omega arith))

pub ends-in-word : (bytes : List ℕ) (place : ℕ) (reader : Reader) (first : ℕ) (builder : Builder) → length bytes ≡ place
    → HasRead bytes place reader → reader.pending ≡ pending.Word first →
    ((ts : List Token) (word : List ℕ) → first + length word ≡ place → HasBuilt ts reader.builder
    → HasBuilt (ts ++ Atom first word ∷ []) builder) →
    HasBuilt (tokens bytes) builder
ends-in-word bytes place reader first builder e read was builds =
    let began : first < place = subst (BeganBefore place) was read.began in
    subst (λ ts. HasBuilt ts builder)
    (sym (read-to-end bytes place reader e read ∙ ap (λ (p : Pending). read.ts ++ word_in (mode_of bytes place p)) was))
    (builds read.ts (slice_range bytes first place) (slice_range-end bytes first place (omega arith) (omega arith))
    read.built)

pub ends-outside : (bytes : List ℕ) (place : ℕ) (reader : Reader) (before : Pending) → length bytes ≡ place
    → HasRead bytes place reader → reader.pending ≡ before →
    word_in (mode_of bytes place before) ≡ [] → HasBuilt (tokens bytes) reader.builder
ends-outside bytes place reader before e read was none =
    subst (λ ts. HasBuilt ts reader.builder)
    (sym (read-to-end bytes place reader e read ∙ ap (λ (p : Pending). read.ts ++ word_in (mode_of bytes place p)) was
    ∙ ap (λ us. read.ts ++ us) none ∙ append-nil read.ts))
    read.built

-- the first fault
pub first-fault : (bytes : List ℕ) (place : ℕ) (reader : Reader) → HasRead bytes place reader →
    (other : SexpFault) → StandsIn bytes other → place ≤ place_of other
first-fault bytes place reader read =
    none-earlier bytes read.ts (mode_of bytes place reader.pending) place read.built.faultless read.spelling read.text

pub is-not-text : (bytes : List ℕ) (place b : ℕ) (reader : Reader) → HasRead bytes place reader
    → slice_get bytes place ≡ Some b → is_text_byte b ≡ false → IsFault bytes (NotText place)
is-not-text bytes place b reader read here not-text = ((b, here, not-text), first-fault bytes place reader read)

-- the token at a place where nothing is pending
next-token : (bytes : List ℕ) (place : ℕ) (reader : Reader) (class : Class) (token : Token)
    → (read : HasRead bytes place reader) → (h : HasClass bytes place class) →
    reader.pending ≡ pending.Nothing → tokens_at Between class place ≡ token ∷ [] → HasToken bytes read.ts token
next-token bytes place reader class token read h was is =
    record {
      after = tokens_from (mode_after Between class place h.byte) (place + 1) (drop (place + 1) bytes);
      spelled = read.spelling ∙ ap (λ us. read.ts ++ us)
          (ap (λ (p : Pending). tokens_from (mode_of bytes place p) place (drop place bytes)) was
          ∙ ap (tokens_from Between place) (rest-at bytes place h.byte h.here)
          ∙ ap (λ k. tokens_at Between k place ++ tokens_from (mode_after Between k place h.byte) (place + 1)
          (drop (place + 1) bytes)) h.of_class
          ∙ ap (λ us. us ++ tokens_from (mode_after Between class place h.byte) (place + 1) (drop (place + 1) bytes))
          is);
    }

pub is-deep : (bytes : List ℕ) (place : ℕ) (reader : Reader) → HasRead bytes place reader → HasClass bytes place Left
    → reader.pending ≡ pending.Nothing →
    ((ts : List Token) → HasBuilt ts reader.builder → depth_limit ≤ length (open_lists ts)) → IsFault bytes (Deep place)
is-deep bytes place reader read h was full = (
  (read.ts, next-token bytes place reader Left (Open place) read h was refl, full read.ts read.built),
  first-fault bytes place reader read,
)

pub is-stray : (bytes : List ℕ) (place : ℕ) (reader : Reader) → HasRead bytes place reader → HasClass bytes place Right
    → reader.pending ≡ pending.Nothing →
    ((ts : List Token) → HasBuilt ts reader.builder → open_lists ts ≡ []) → IsFault bytes (Stray place)
is-stray bytes place reader read h was none = (
  (read.ts, next-token bytes place reader Right (Close (place + 1)) read h was refl, none read.ts read.built),
  first-fault bytes place reader read,
)

pub refuses-deep : (old : Reader) (class : Class) (place : ℕ) (fault : SexpFault) → class ≡ Left
    → old.pending ≡ pending.Nothing →
    (fault ≡ NoMemory) ⊎ ((fault ≡ Deep place)
    × ((ts : List Token) → HasBuilt ts old.builder → depth_limit ≤ length (open_lists ts)))
    → Refuses old class place fault
refuses-deep old class place fault left nothing why =
    elim why [
      | inl memory ↦ inl memory
      | inr deep ↦ inr (λ bytes read here. subst (IsFault bytes) (sym deep.0)
          (is-deep bytes place old read (subst (HasClass bytes place) left here) nothing deep.1))
    ]

pub refuses-stray : (old : Reader) (class : Class) (place : ℕ) (fault : SexpFault) → class ≡ Right
    → old.pending ≡ pending.Nothing →
    (fault ≡ NoMemory) ⊎ ((fault ≡ Stray place) × ((ts : List Token) → HasBuilt ts old.builder → open_lists ts ≡ []))
    → Refuses old class place fault
refuses-stray old class place fault right nothing why =
    elim why [
      | inl memory ↦ inl memory
      | inr stray ↦ inr (λ bytes read here. subst (IsFault bytes) (sym stray.0)
          (is-stray bytes place old read (subst (HasClass bytes place) right here) nothing stray.1))
    ]

-- a blank leaves a reader as it is, where nothing is pending
pub reads-blank : (old : Reader) (class : Class) (place : ℕ) → old.pending ≡ pending.Nothing
    → (class ≡ Blank) ⊎ (class ≡ LineFeed) → ReadsOn old class place old
reads-blank old class place nothing (inl blank) bytes read here =
    read-same bytes place old old pending.Nothing Blank read
    (subst (HasClass bytes place) blank here) nothing refl refl pending.Nothing nothing refl tt
reads-blank old class place nothing (inr feed) bytes read here =
    read-same bytes place old old pending.Nothing LineFeed read
    (subst (HasClass bytes place) feed here) nothing refl refl pending.Nothing nothing refl tt

-- so does a letter in a word
pub reads-letter : (old : Reader) (first place : ℕ) (class : Class) → old.pending ≡ pending.Word first → class ≡ Letter
    → ReadsOn old class place old
reads-letter old first place class was letter bytes read here =
    let began : first < place = subst (BeganBefore place) was read.began in
    read-same bytes place old old (pending.Word first) Letter read
    (subst (HasClass bytes place) letter here) was refl refl (pending.Word first) was
    (ap (Within first) (slice_range-more bytes first place here.byte (omega arith) here.here)) (omega arith)

-- and any byte but a line feed in a comment
comment-none : (class : Class) (place : ℕ) → tokens_at Comment class place ≡ []
comment-none Blank place = refl
comment-none _ place = refl

comment-stays : (class : Class) (place b : ℕ) → (class ≡ LineFeed → ⊥) → Comment ≡ mode_after Comment class place b
comment-stays LineFeed place b apart = absurd (apart refl)
comment-stays _ place b apart = refl

pub reads-comment : (old : Reader) (class : Class) (place : ℕ) → old.pending ≡ pending.Comment → (class ≡ LineFeed → ⊥)
    → ReadsOn old class place old
reads-comment old class place was apart bytes read here =
    read-same bytes place old old pending.Comment class read here was
    (comment-none class place) refl pending.Comment was (comment-stays class place here.byte apart) tt

pub reads-line-feed : (old new : Reader) (class : Class) (place : ℕ) → old.pending ≡ pending.Comment → class ≡ LineFeed
    → new.builder ≡ old.builder → new.pending ≡ pending.Nothing → ReadsOn old class place new
reads-line-feed old new class place was feed same is bytes read here =
    read-same bytes place old new pending.Comment LineFeed read
    (subst (HasClass bytes place) feed here) was refl same pending.Nothing is refl tt

-- a byte of a text has its class
pub class-at : (bytes : List ℕ) (place : ℕ) (class : Class) → place < length bytes
    → class ≡ class_of (get_or bytes place 0) →
    is_text_byte (get_or bytes place 0) ≡ true → HasClass bytes place class
class-at bytes place class within of-class text =
    record {
      byte = get_or bytes place 0;
      here = slice_get-get_or bytes place 0 within;
      of_class = sym of-class;
      text =
          text;
    }

all-text : (bytes : List ℕ) → ((k b : ℕ) → k < length bytes → slice_get bytes k ≡ Some b → is_text_byte b ≡ true)
    → IsTrue (list_all is_text_byte bytes)
all-text bytes text = list_all-from_AllPass is_text_byte bytes (λ k d lt. text k _ lt (slice_get-get_or bytes k d lt))

pub reading-at-end : (bytes : List ℕ) (place : ℕ) (reader : Reader) (builder : Builder) (forest : Forest)
    → length bytes ≡ place → HasRead bytes place reader →
    HasBuilt (tokens bytes) builder → Holds (tokens bytes) forest → IsReading bytes forest
reading-at-end bytes place reader builder forest e read built holds =
    let faultless : IsFaultless [] (flatten holds.trees ++ []) =
    subst (IsFaultless []) (sym holds.spelling ∙ sym (append-nil (flatten holds.trees))) built.faultless in
    let shallow = trees-shallow holds.trees [] [] (omega arith) faultless in (
      holds.trees,
      record {
        text = all-text bytes (λ k b lt. read.text k b (omega arith));
        spelled = sym holds.spelling;
        nested = omega (arith, shallow.0);
        items = holds.items;
        outermost = holds.outermost;
      },
    )

pub fault-at-end : (bytes : List ℕ) (place : ℕ) (reader : Reader) (builder : Builder) (fault : SexpFault)
    → length bytes ≡ place → HasRead bytes place reader →
    HasBuilt (tokens bytes) builder → LeavesOpen (tokens bytes) fault → IsFault bytes fault
fault-at-end bytes place reader builder (Unclosed k) e read built leaves =
    (none-stands bytes (all-text bytes (λ k b lt. read.text k b (omega arith))) built.faultless, leaves)
fault-at-end bytes place reader builder (NotText k) e read built leaves = absurd leaves
fault-at-end bytes place reader builder (Stray k) e read built leaves = absurd leaves
fault-at-end bytes place reader builder (Deep k) e read built leaves = absurd leaves
fault-at-end bytes place reader builder NoMemory e read built leaves = absurd leaves

-- the one answer
pub every-reading : (bytes : List ℕ) (result : Result Forest SexpFault) → IfOk result (IsReading bytes)
    → IfErr result (λ fault. (fault ≡ NoMemory) ⊎ IsFault bytes fault) →
    (forest : Forest) → IsReading bytes forest → IsButForMemory (Ok forest) result
every-reading bytes (Ok found) ok err forest reading = inl (ap Ok (reading-unique bytes found forest ok reading))
every-reading bytes (Err fault) ok err forest reading =
    elim err [ inl e ↦ inr (ap Err e) | inr is ↦ absurd (reading-faultless bytes forest fault reading is) ]

pub every-fault : (bytes : List ℕ) (result : Result Forest SexpFault) → IfOk result (IsReading bytes)
    → IfErr result (λ fault. (fault ≡ NoMemory) ⊎ IsFault bytes fault) →
    (fault : SexpFault) → IsFault bytes fault → IsButForMemory (Err fault) result
every-fault bytes (Ok found) ok err fault is = absurd (reading-faultless bytes found fault ok is)
every-fault bytes (Err other) ok err fault is =
    elim err [ inl e ↦ inr (ap Err e) | inr is' ↦ inl (ap Err (fault-unique bytes other fault is' is)) ]
