-- The form of a library's items: a goal's claim, before its rules and its open claims are looked at, and the head. The
-- format is this project's own.
--
--   head := (isel-library 1)
--   item := (goal NAME complete S rule*) | (goal NAME partial S rule* open*)
--         | (goal NAME none) | (goal NAME stopped open*)
--
-- S is a numeral of at most 6, and NAME a name. Here a rule is any list that begins with `rule`, and an open claim any
-- that begins with `open`.
use Rattle.std.specs.Prelude.{ℕ, List, [], ◌∷◌, Option, Some, None, false, Bool, ◌&&◌, take, drop}
use Rattle.std.specs.Prelude.{if◌then◌else◌, codes}
use Rattle.std.specs.List.{list_all, prefix_len}
use Rattle.std.specs.Option.{option_map_or}
use Rattle.std.specs.Str.{bytes_eq}
use Rattle.sexp_read.specs.Words.{is_name, numeral_between}
use Rattle.sexp_read.specs.Tree.{Tree, word_of, members_of}
use Rattle.pattern_text.specs.declared.claimed.State.{State}
use Rattle.pattern_text.specs.declared.claimed.State.TheVariants as state
use Rattle.pattern_text.specs.Form.{◌>>=◌, where_true, is_word}

-- a list that begins with this word
abbrev pub begins : List ℕ → List Tree → Bool
begins word [] = false
begins word (t ∷ ts) = is_word word t

abbrev pub is_headed : List ℕ → Tree → Bool
is_headed word tree = option_map_or (begins word) (members_of tree) false

-- what an item says of a goal
pub record ClaimForm : Type 0 where
  pub name : Tree
  pub state : State
  pub rules : List Tree
  pub opens : List Tree

abbrev pub is_rule : Tree → Bool
is_rule tree = is_headed (codes "rule") tree

abbrev pub is_open : Tree → Bool
is_open tree = is_headed (codes "open") tree

-- a size, and what follows it
abbrev pub size_in : Tree → Option ℕ
size_in tree = word_of tree >>= numeral_between 0 6

abbrev pub complete_of : Tree → ℕ → List Tree → Option ClaimForm
complete_of name size rules =
    where_true (list_all is_rule rules)
    (record { name = name; state = state.Complete size; rules = rules; opens = [] })

-- the rules are the lists in front that begin so
abbrev pub partial_of : Tree → ℕ → List Tree → Option ClaimForm
partial_of name size rest =
    where_true (list_all is_open (drop (prefix_len is_rule rest) rest))
    (record {
      name = name;
      state = state.Partial size;
      rules = take (prefix_len is_rule rest) rest;
      opens = drop (prefix_len is_rule rest) rest;
    })

abbrev pub sized : (ℕ → List Tree → Option ClaimForm) → List Tree → Option ClaimForm
sized claim [] = None
sized claim (size ∷ rest) = size_in size >>= λ s. claim s rest

abbrev pub none_of : Tree → List Tree → Option ClaimForm
none_of name [] = Some (record { name = name; state = state.None; rules = []; opens = [] })
none_of name (t ∷ ts) = None

abbrev pub stopped_of : Tree → List Tree → Option ClaimForm
stopped_of name opens =
    where_true (list_all is_open opens) (record { name = name; state = state.Stopped; rules = []; opens = opens })

abbrev pub claim_by : Tree → List ℕ → List Tree → Option ClaimForm
claim_by name word rest =
    if bytes_eq word (codes "complete") then sized (complete_of name) rest
    else if bytes_eq word (codes "partial") then sized (partial_of name) rest
    else if bytes_eq word (codes "none") then none_of name rest
    else if bytes_eq word (codes "stopped") then stopped_of name rest
    else None

abbrev pub is_name_in : Tree → Bool
is_name_in tree = option_map_or is_name (word_of tree) false

-- the word after the name, and what follows
abbrev pub state_from : Tree → List Tree → Option ClaimForm
state_from name [] = None
state_from name (word ∷ rest) = word_of word >>= (λ w. claim_by name w rest)

abbrev pub name_from : List Tree → Option ClaimForm
name_from [] = None
name_from (name ∷ rest) = if is_name_in name then state_from name rest else None

abbrev pub claim_from : List Tree → Option ClaimForm
claim_from [] = None
claim_from (head ∷ rest) = if is_word (codes "goal") head then name_from rest else None

abbrev pub claim_in : Tree → Option ClaimForm
claim_in tree = members_of tree >>= claim_from

-- `(isel-library 1)`
abbrev pub is_head_of : Tree → Tree → Bool
is_head_of word version = is_word (codes "isel-library") word && is_word (codes "1") version

abbrev pub is_head_from : List Tree → Bool
is_head_from (word ∷ version ∷ []) = is_head_of word version
is_head_from _ = false

abbrev pub is_head : Tree → Bool
is_head tree = option_map_or is_head_from (members_of tree) false
