-- The text of an answer for a goal, and of a library: what it is read as.
use Rattle.std.proofs.Common.{◌≡◌, ◌∙◌, ℕ, ◌+◌, ◌≤◌, Bool, true, false, List, [], ◌∷◌, ◌++◌, length}
use Rattle.std.proofs.Common.{Option, Some, None, Ok, codes, refl, sym, ap, subst, arith, append_assoc}
use Rattle.std.proofs.Common.{if◌then◌else◌, cond, take, drop}
use Rattle.std.specs.Prelude.{option_and_then, unwrap_or}
use Rattle.std.specs.List.{list_all, flat_map, position, prefix_len}
use Rattle.std.specs.Option.{option_map_or}
use Rattle.std.specs.Str.{bytes_eq}
use Rattle.std.specs.Fmt.{decimal}
use Rattle.std.proofs.Math.Nat.{max-le}
use Rattle.std.proofs.lemmas.List.{length-append}
use Rattle.std.proofs.Math.Seq.{take-append_seam, drop-append_seam}
use Rattle.list_lemmas.proofs.Bools.{and-both}
use Rattle.list_lemmas.proofs.Lists.{Each}
use Rattle.sexp_read.specs.Words.{is_name, numeral_between}
use Rattle.sexp_read.specs.Tree.{Tree, Then, tree_tokens, flatten}
use Rattle.isel_spec.specs.File.{File, Goal}
use Rattle.pattern_core.specs.declared.pattern.Pattern.{Pattern}
use Rattle.pattern_core.specs.declared.pattern.GoalAnswer.{GoalAnswer}
use Rattle.pattern_core.specs.declared.pattern.GoalAnswer.TheVariants as answer
use Rattle.pattern_core.specs.Pattern.{Pairwise}
use Rattle.pattern_text.specs.declared.fault.LibKind.TheVariants as fault
use Rattle.pattern_text.specs.declared.claimed.State.TheVariants as state
use Rattle.pattern_text.specs.Text.{rule_text, open_text, answer_text, answers_text, library_text}
use Rattle.pattern_text.specs.Steps.{span_of, or_fault}
use Rattle.pattern_text.specs.Form.{where_true, is_word}
use Rattle.pattern_text.specs.Items.{ClaimForm, is_rule, is_open, size_in, complete_of, partial_of, sized, none_of}
use Rattle.pattern_text.specs.Items.{stopped_of, claim_by, is_name_in, state_from, name_from, claim_from, claim_in}
use Rattle.pattern_text.specs.Items.{is_head_from, is_head}
use Rattle.pattern_text.specs.Rules.{goal_read}
use Rattle.pattern_text.specs.Reading.{size_of}
use Rattle.pattern_text.specs.RoundTrip.{state_of, rules_of, undecided_of}
use Rattle.pattern_text.proofs.Spelling.{Ends, both-spelled}
use Rattle.pattern_text.proofs.Decimals.{decimal-read, decimal-word, decimal-some}
use Rattle.pattern_text.proofs.NamedPlaces.{IsNamed, OpsAreNamed, goal_names, name-word, name-some}
use Rattle.pattern_text.proofs.WrittenTrees.{IsTreeOf, AreTreesOf, IsWordOf, Headed, IsLast, Parted, IsListOf, IsTextOf}
use Rattle.pattern_text.proofs.WrittenTrees.{EndsWords, word, tree-known, tree-same, in-list, in-line, one-tree}
use Rattle.pattern_text.proofs.WrittenTrees.{more-trees, word-and, line-before, no-trees, both-series, series}
use Rattle.pattern_text.proofs.WrittenTrees.{series-ends}
use Rattle.pattern_text.proofs.WrittenRules.{IsPatternText, RuleReads, RuleAt, rule-written, IsMultiText, OpenReads}
use Rattle.pattern_text.proofs.WrittenRules.{open-written}

-- ---- what the item of an answer is read as

-- rules whose lines stand from a place on
abbrev pub RulesAt : File → List Pattern → ℕ → List Tree → Type 0
RulesAt f [] place [] = Unit {0}
RulesAt f (p ∷ ps) place (t ∷ ts) = RuleAt f p place t × RulesAt f ps (place + length (rule_text f p)) ts
RulesAt f [] place (t ∷ ts) = ⊥
RulesAt f (p ∷ ps) place [] = ⊥

rules-read : (f : File) (rules : List Pattern) (place : ℕ) (trees : List Tree) → RulesAt f rules place trees
    → Pairwise (RuleReads f) rules trees
rules-read f [] place [] h = tt
rules-read f [] place (t ∷ ts) h = absurd h
rules-read f (p ∷ ps) place [] h = absurd h
rules-read f (p ∷ ps) place (t ∷ ts) h =
    (h.0.reads, rules-read f ps (place + length (rule_text f p)) ts h.1)

-- The form of an item that says what an answer for the goal at a place says. The line of its first rule stands at
-- another place.
pub record AnswerReads (f : File) (place : ℕ) (a : GoalAnswer) (first : ℕ) (read : Option ClaimForm) : Type 0 where
  pub form : ClaimForm
  pub formed : read ≡ Some form
  pub name : goal_read f form.name ≡ Ok place
  pub state : form.state ≡ state_of a
  pub rules : Pairwise (RuleReads f) (rules_of a) form.rules
  pub placed : RulesAt f (rules_of a) first form.rules
  pub opens : Pairwise (OpenReads f) (undecided_of a) form.opens

all-pass : {A : Type 0} (R : A → Tree → Type 0) (test : Tree → Bool) → ((x : A) (t : Tree) → R x t → test t ≡ true)
    → (xs : List A) (trees : List Tree) → Pairwise R xs trees → list_all test trees ≡ true
all-pass R test pass [] [] h = refl
all-pass R test pass [] (t ∷ ts) h = absurd h
all-pass R test pass (x ∷ xs) [] h = absurd h
all-pass R test pass (x ∷ xs) (t ∷ ts) h =
    and-both (test t) (list_all test ts) (pass x t h.0) (all-pass R test pass xs ts h.1)

all-rules : (f : File) (rules : List Pattern) (trees : List Tree) → Pairwise (RuleReads f) rules trees
    → list_all is_rule trees ≡ true
all-rules f rules trees h = all-pass (RuleReads f) is_rule (λ p t r. r.is) rules trees h

all-opens : (f : File) (multis : List (List ℕ)) (trees : List Tree) → Pairwise (OpenReads f) multis trees
    → list_all is_open trees ≡ true
all-opens f multis trees h = all-pass (OpenReads f) is_open (λ m t r. r.is) multis trees h

no-rule-first : (f : File) (multis : List (List ℕ)) (trees : List Tree) → Pairwise (OpenReads f) multis trees
    → prefix_len is_rule trees ≡ 0
no-rule-first f [] [] h = refl
no-rule-first f [] (t ∷ ts) h = absurd h
no-rule-first f (m ∷ ms) [] h = absurd h
no-rule-first f (m ∷ ms) (t ∷ ts) h = ap (λ b. cond b (1 + prefix_len is_rule ts) 0) h.0.no_rule

rules-counted : (f : File) (rules : List Pattern) (multis : List (List ℕ)) (front back : List Tree)
    → Pairwise (RuleReads f) rules front → Pairwise (OpenReads f) multis back
    → prefix_len is_rule (front ++ back) ≡ length front
rules-counted f [] multis [] back h k = no-rule-first f multis back k
rules-counted f [] multis (t ∷ ts) back h k = absurd h
rules-counted f (p ∷ ps) multis [] back h k = absurd h
rules-counted f (p ∷ ps) multis (t ∷ ts) back h k =
    let one : 1 + length ts ≡ length (t ∷ ts) = omega arith in
    ap (λ b. cond b (1 + prefix_len is_rule (ts ++ back)) 0) h.0.is
    ∙ ap (λ n. 1 + n) (rules-counted f ps multis ts back h.1 k) ∙ one

-- a goal's name
abbrev NameReads : File → ℕ → Tree → Type 0
NameReads f place n = goal_read f n ≡ Ok place

name-reads : (f : File) (place : ℕ) (name : List ℕ) (n : Tree) → IsNamed (goal_names f) place name → IsWordOf name n
    → NameReads f place n
name-reads f place name n named is =
    ap (λ w. or_fault fault.Unknown (span_of n) (position (bytes_eq (unwrap_or w [])) (goal_names f))) is
    ∙ ap (or_fault fault.Unknown (span_of n)) named.found

complete-end : (f : File) (place first size : ℕ) (rules : List Pattern) (n : Tree) → NameReads f place n
    → (rest : List Tree) → RulesAt f rules first rest
    → AnswerReads f place (answer.Complete size rules) first (complete_of n size rest)
complete-end f place first size rules n name rest h =
    let reads = rules-read f rules first rest h in
    let form : ClaimForm = record { name = n; state = state.Complete size; rules = rest; opens = [] } in
    record {
      form = form;
      formed = ap (λ b. where_true b form) (all-rules f rules rest reads);
      name = name;
      state = refl;
      rules = reads;
      placed = h;
      opens = tt;
    }

abbrev parted_at : Tree → ℕ → List Tree → ℕ → Option ClaimForm
parted_at n size rest count =
    where_true (list_all is_open (drop count rest))
    (record { name = n; state = state.Partial size; rules = take count rest; opens = drop count rest })

partial-parts : (f : File) (place first size : ℕ) (rules : List Pattern) (multis : List (List ℕ)) (n : Tree)
    → NameReads f place n → (front back : List Tree) → RulesAt f rules first front
    → Pairwise (OpenReads f) multis back
    → AnswerReads f place (answer.Partial size rules multis) first (partial_of n size (front ++ back))
partial-parts f place first size rules multis n name front back h k =
    let reads = rules-read f rules first front h in
    let form : ClaimForm = record { name = n; state = state.Partial size; rules = front; opens = back } in
    let count : prefix_len is_rule (front ++ back) ≡ length front = rules-counted f rules multis front back reads k in
    let before : take (length front) (front ++ back) ≡ front = take-append_seam front back in
    let after : drop (length front) (front ++ back) ≡ back = drop-append_seam front back in
    record {
      form = form;
      formed = ap (parted_at n size (front ++ back)) count
          ∙ (λ i. where_true (list_all is_open (after i))
          (record { name = n; state = state.Partial size; rules = before i; opens = after i }))
          ∙ ap (λ b. where_true b form) (all-opens f multis back k);
      name = name;
      state = refl;
      rules = reads;
      placed = h;
      opens = k;
    }

partial-end : (f : File) (place first size : ℕ) (rules : List Pattern) (multis : List (List ℕ)) (n : Tree)
    → NameReads f place n → (rest : List Tree)
    → Parted (RulesAt f rules first) (Pairwise (OpenReads f) multis) rest
    → AnswerReads f place (answer.Partial size rules multis) first (partial_of n size rest)
partial-end f place first size rules multis n name rest h =
    subst (λ rest. AnswerReads f place (answer.Partial size rules multis) first (partial_of n size rest)) (sym h.2)
    (partial-parts f place first size rules multis n name h.0 h.1 h.3 h.4)

none-end : (f : File) (place first : ℕ) (n : Tree) → NameReads f place n → (rest : List Tree) → IsLast rest
    → AnswerReads f place answer.None first (none_of n rest)
none-end f place first n name rest h =
    subst (λ rest. AnswerReads f place answer.None first (none_of n rest)) (sym h) (record {
      form = record { name = n; state = state.None; rules = []; opens = [] };
      formed = refl;
      name = name;
      state = refl;
      rules = tt;
      placed = tt;
      opens = tt;
    })

stopped-end : (f : File) (place first : ℕ) (multis : List (List ℕ)) (n : Tree) → NameReads f place n
    → (rest : List Tree) → Pairwise (OpenReads f) multis rest
    → AnswerReads f place (answer.Stopped multis) first (stopped_of n rest)
stopped-end f place first multis n name rest h =
    let form : ClaimForm = record { name = n; state = state.Stopped; rules = []; opens = rest } in
    record {
      form = form;
      formed = ap (λ b. where_true b form) (all-opens f multis rest h);
      name = name;
      state = refl;
      rules = tt;
      placed = tt;
      opens = h;
    }

-- the size, and what follows it
after-size : (Read : Option ClaimForm → Type 0) (claim : ℕ → List Tree → Option ClaimForm) (size : ℕ)
    (Rest : List Tree → Type 0) → size ≤ 6 → ((rest : List Tree) → Rest rest → Read (claim size rest))
    → (trees : List Tree) → Headed (IsWordOf (decimal size)) Rest trees → Read (sized claim trees)
after-size Read claim size Rest small by [] h = absurd h
after-size Read claim size Rest small by (t ∷ rest) h =
    let read : size_in t ≡ Some size =
    ap (option_and_then (numeral_between 0 6)) h.0 ∙ decimal-read 0 6 size (omega arith) (omega arith) small in
    subst Read (sym (ap (option_and_then (λ s. claim s rest)) read)) (by rest h.1)

-- the word after the name
after-word : (Read : Option ClaimForm → Type 0) (n : Tree) (word : List ℕ) (Rest : List Tree → Type 0)
    → ((rest : List Tree) → Rest rest → Read (claim_by n word rest)) → (trees : List Tree)
    → Headed (IsWordOf word) Rest trees → Read (state_from n trees)
after-word Read n word Rest by [] h = absurd h
after-word Read n word Rest by (t ∷ rest) h =
    subst Read (sym (ap (option_and_then (λ w. claim_by n w rest)) h.0)) (by rest h.1)

abbrev GoalMembers : List ℕ → (List Tree → Type 0) → List Tree → Type 0
GoalMembers name Rest = Headed (IsWordOf (codes "goal")) (Headed (IsWordOf name) Rest)

-- what follows a goal's name is read so
abbrev ReadsAfter : File → ℕ → (Option ClaimForm → Type 0) → (List Tree → Type 0) → Type 0
ReadsAfter f place Read Rest =
    (n : Tree) → NameReads f place n → (rest : List Tree) → Rest rest → Read (state_from n rest)

goal-from : (f : File) (place : ℕ) (Read : Option ClaimForm → Type 0) (name : List ℕ) (Rest : List Tree → Type 0)
    → IsNamed (goal_names f) place name → ReadsAfter f place Read Rest → (members : List Tree)
    → GoalMembers name Rest members → Read (claim_from members)
goal-from f place Read name Rest named by [] h = absurd h
goal-from f place Read name Rest named by (t ∷ []) h = absurd h.1
goal-from f place Read name Rest named by (t ∷ n ∷ rest) h =
    let headed : is_word (codes "goal") t ≡ true = ap (λ o. option_map_or (bytes_eq (codes "goal")) o false) h.0 in
    let is : is_name_in n ≡ true = ap (λ o. option_map_or is_name o false) h.1.0 ∙ named.is in
    subst Read (sym (
    ap (λ b. if b then name_from (n ∷ rest) else None) headed ∙ ap (λ b. if b then state_from n rest else None) is))
    (by n (name-reads f place name n named h.1.0) rest h.1.1)

goal-reads : (f : File) (place : ℕ) (Read : Option ClaimForm → Type 0) (name : List ℕ) (Rest : List Tree → Type 0)
    → IsNamed (goal_names f) place name → ReadsAfter f place Read Rest → (tree : Tree)
    → IsListOf (GoalMembers name Rest) tree → Read (claim_in tree)
goal-reads f place Read name Rest named by tree h =
    subst Read (sym (ap (option_and_then claim_from) h.1)) (goal-from f place Read name Rest named by h.0 h.2)

-- ---- the text of an answer

-- what an answer writes
pub record IsAnswerText (f : File) (a : GoalAnswer) : Type 0 where
  pub size : size_of (state_of a) ≤ 6
  pub rules : Each (IsPatternText f) (rules_of a)
  pub undecided : Each (IsMultiText f) (undecided_of a)

abbrev pub AnswerOf : File → ℕ → GoalAnswer → ℕ → Tree → Type 0
AnswerOf f k a first tree = AnswerReads f k a first (claim_in tree)

-- where the lines of an answer's rules stand in its text, which begins at a place
pub record HasRules (f : File) (a : GoalAnswer) (first start : ℕ) (bytes : List ℕ) : Type 0 where
  pub before : List ℕ
  pub after : List ℕ
  pub whole : bytes ≡ before ++ (flat_map (rule_text f) (rules_of a) ++ after)
  pub place : first ≡ start + length before

-- an item that is read as an answer, whose text begins at a place
pub record AnswerIn (f : File) (k : ℕ) (name : List ℕ) (a : GoalAnswer) (start : ℕ) (tree : Tree) : Type 0 where
  pub first : ℕ
  pub reads : AnswerOf f k a first tree
  pub rules : HasRules f a first start (answer_text f name a)

-- the text of a goal's list: its name, and what follows
abbrev goal_list : List ℕ → List ℕ → List ℕ
goal_list name bytes = codes "(" ++ (codes "goal" ++ (codes " " ++ (name ++ (codes " " ++ bytes)))) ++ codes ")"

-- where what follows the name stands
abbrev after_name : ℕ → List ℕ → ℕ
after_name place name = place + 1 + length (codes "goal") + 1 + length name + 1

goal-line : (f : File) (k : ℕ) (Read : Option ClaimForm → Type 0) (name : List ℕ) (Rest : List Tree → Type 0)
    (place : ℕ) (bytes : List ℕ) → IsNamed (goal_names f) k name → ReadsAfter f k Read Rest
    → AreTreesOf 3 Rest (after_name place name) bytes
    → IsTreeOf 4 (λ tree. Read (claim_in tree)) place (goal_list name bytes ++ 10 ∷ [])
goal-line f k Read name Rest place bytes named by w =
    let start : ℕ = place + 1 in
    let next : ℕ = start + length (codes "goal") + 1 in
    let members =
    word-and 3 (IsWordOf (codes "goal")) (Headed (IsWordOf name) Rest) start (codes "goal")
    (name ++ (codes " " ++ bytes))
    (word 3 start (codes "goal") (omega arith) refl)
    (word-and 3 (IsWordOf name) Rest next name bytes
    (word 3 next name (name-some name named.is) (name-word name named.is)) w) in
    in-line 4 (λ tree. Read (claim_in tree)) place (goal_list name bytes)
    (tree-known 4 (IsListOf (GoalMembers name Rest)) (λ tree. Read (claim_in tree)) place (goal_list name bytes)
    (goal-reads f k Read name Rest named by)
    (in-list 3 (GoalMembers name Rest) place (codes "goal" ++ (codes " " ++ (name ++ (codes " " ++ bytes)))) members))

-- the rules, and the open claims
rules-series : (f : File) → OpsAreNamed f → (rules : List Pattern) → Each (IsPatternText f) rules → (place : ℕ)
    → AreTreesOf 3 (RulesAt f rules place) place (flat_map (rule_text f) rules)
rules-series f named [] h place = no-trees 3 place (RulesAt f [] place) tt
rules-series f named (p ∷ ps) h place =
    let w = rule-written f named p h.0 place in
    let bytes : List ℕ = flat_map (rule_text f) ps in
    let v = rules-series f named ps h.1 (place + length (rule_text f p)) in
    record {
      trees = Then w.tree v.trees;
      spelled = both-spelled place (rule_text f p) bytes (tree_tokens w.tree) (flatten v.trees) w.spelled v.spelled
          (series-ends (rule_text f) (λ p rest. refl) ps);
      shallow = max-le w.shallow v.shallow;
      known = (w.known, v.known);
    }

opens-series : (f : File) → OpsAreNamed f → (multis : List (List ℕ)) → Each (IsMultiText f) multis → (place : ℕ)
    → AreTreesOf 3 (Pairwise (OpenReads f) multis) place (flat_map (open_text f) multis)
opens-series f named multis h place =
    series 3 (OpenReads f) (open_text f) (λ m rest. refl) multis (all multis h) place
  where
    all : (multis : List (List ℕ)) → Each (IsMultiText f) multis → Each (IsTextOf 3 (OpenReads f) (open_text f)) multis
    all [] h = tt
    all (m ∷ ms) h = (open-written f named m h.0, all ms h.1)

opens-end : (f : File) (multis : List (List ℕ)) → EndsWords (flat_map (open_text f) multis)
opens-end f multis = series-ends (open_text f) (λ m rest. refl) multis

-- a word, a size, a line feed, and what follows
sized-series : (Rest : List Tree → Type 0) (place : ℕ) (w : List ℕ) (size : ℕ) (bytes : List ℕ)
    → IsTreeOf 3 (IsWordOf w) place w → size ≤ 6
    → AreTreesOf 3 Rest (place + length w + 1 + length (decimal size) + 1) bytes
    → AreTreesOf 3 (Headed (IsWordOf w) (Headed (IsWordOf (decimal size)) Rest)) place
    (w ++ (codes " " ++ (decimal size ++ (10 ∷ bytes))))
sized-series Rest place w size bytes first small rest =
    let next : ℕ = place + length w + 1 in
    word-and 3 (IsWordOf w) (Headed (IsWordOf (decimal size)) Rest) place w (decimal size ++ (10 ∷ bytes)) first
    (more-trees 3 (IsWordOf (decimal size)) Rest next (decimal size) (10 ∷ bytes)
    (word 3 next (decimal size) (decimal-some size (omega arith)) (decimal-word size (omega arith)))
    (line-before 3 Rest (next + length (decimal size)) bytes rest) (λ rest e. refl))

closed : (bs : List ℕ) → (bs ++ codes ")") ++ 10 ∷ [] ≡ bs ++ (41 ∷ 10 ∷ [])
closed bs = append_assoc bs (codes ")") (10 ∷ [])

sized-grouped : (name w d bytes : List ℕ)
    → name ++ (w ++ (d ++ (10 ∷ bytes))) ≡ ((((name ++ w) ++ d) ++ 10 ∷ []) ++ bytes)
sized-grouped name w d bytes =
    sym (append_assoc name w (d ++ (10 ∷ bytes))) ∙ sym (append_assoc (name ++ w) d (10 ∷ bytes))
    ∙ sym (append_assoc ((name ++ w) ++ d) (10 ∷ []) bytes)

complete-grouped : (name d bytes : List ℕ)
    → goal_list name (codes "complete" ++ (codes " " ++ (d ++ (10 ∷ bytes)))) ++ 10 ∷ []
    ≡ ((codes "(goal " ++ name ++ codes " complete " ++ d) ++ 10 ∷ []) ++ bytes ++ (41 ∷ 10 ∷ [])
complete-grouped name d bytes =
    ap (λ bs. codes "(goal " ++ bs)
    (closed (name ++ (codes " complete " ++ (d ++ (10 ∷ bytes))))
    ∙ ap (λ bs. bs ++ (41 ∷ 10 ∷ [])) (sized-grouped name (codes " complete ") d bytes))

header-length : (start name w d : List ℕ)
    → length ((start ++ name ++ w ++ d) ++ 10 ∷ []) ≡ length start + length name + length w + length d + 1
header-length start name w d =
    let all = length-append (start ++ name ++ w ++ d) (10 ∷ []) in
    let last = length-append (start ++ name ++ w) d in
    let middle = length-append (start ++ name) w in
    let first = length-append start name in
    omega (arith, all, last, middle, first)

-- where what follows the line feed after the size stands
abbrev after_size : ℕ → List ℕ → List ℕ → ℕ → ℕ
after_size place name w size = after_name place name + length w + 1 + length (decimal size) + 1

complete-has : (f : File) (place size : ℕ) (rules : List Pattern) (name : List ℕ)
    → HasRules f (answer.Complete size rules) (after_size place name (codes "complete") size) place
    (answer_text f name (answer.Complete size rules))
complete-has f place size rules name =
    let header : List ℕ = (codes "(goal " ++ name ++ codes " complete " ++ decimal size) ++ 10 ∷ [] in
    let long = header-length (codes "(goal ") name (codes " complete ") (decimal size) in
    record {
      before = header;
      after = 41 ∷ 10 ∷ [];
      whole = append_assoc header (flat_map (rule_text f) rules) (41 ∷ 10 ∷ []);
      place = omega (arith, long);
    }

complete-written : (f : File) → OpsAreNamed f → (k size : ℕ) (rules : List Pattern) (name : List ℕ)
    → IsNamed (goal_names f) k name → IsAnswerText f (answer.Complete size rules) → (place : ℕ)
    → IsTreeOf 4 (AnswerIn f k name (answer.Complete size rules) place) place
    (answer_text f name (answer.Complete size rules))
complete-written f ops k size rules name named is place =
    let bytes : List ℕ = flat_map (rule_text f) rules in
    let at : ℕ = after_name place name in
    let first : ℕ = after_size place name (codes "complete") size in
    let Sized : List Tree → Type 0 = Headed (IsWordOf (decimal size)) (RulesAt f rules first) in
    let a : GoalAnswer = answer.Complete size rules in
    let w = goal-line f k (AnswerReads f k a first) name (Headed (IsWordOf (codes "complete")) Sized) place
    (codes "complete" ++ (codes " " ++ (decimal size ++ (10 ∷ bytes)))) named
    (λ n reads. after-word (AnswerReads f k a first) n (codes "complete") Sized
    (after-size (AnswerReads f k a first) (complete_of n) size (RulesAt f rules first) is.size
    (complete-end f k first size rules n reads)))
    (sized-series (RulesAt f rules first) at (codes "complete") size bytes
    (word 3 at (codes "complete") (omega arith) refl) is.size (rules-series f ops rules is.rules first)) in
    tree-known 4 (AnswerOf f k a first) (AnswerIn f k name a place) place (answer_text f name a)
    (λ tree r. record { first = first; reads = r; rules = complete-has f place size rules name })
    (tree-same 4 (AnswerOf f k a first) place _ (answer_text f name a) (complete-grouped name (decimal size) bytes) w)

partial-grouped : (name d bs cs : List ℕ)
    → goal_list name (codes "partial" ++ (codes " " ++ (d ++ (10 ∷ (bs ++ cs))))) ++ 10 ∷ []
    ≡ ((codes "(goal " ++ name ++ codes " partial " ++ d) ++ 10 ∷ []) ++ bs ++ cs ++ (41 ∷ 10 ∷ [])
partial-grouped name d bs cs =
    ap (λ bs. codes "(goal " ++ bs)
    (closed (name ++ (codes " partial " ++ (d ++ (10 ∷ (bs ++ cs)))))
    ∙ ap (λ bs. bs ++ (41 ∷ 10 ∷ [])) (sized-grouped name (codes " partial ") d (bs ++ cs)
    ∙ sym (append_assoc (((name ++ codes " partial ") ++ d) ++ 10 ∷ []) bs cs)))

partial-has : (f : File) (place size : ℕ) (rules : List Pattern) (multis : List (List ℕ)) (name : List ℕ)
    → HasRules f (answer.Partial size rules multis) (after_size place name (codes "partial") size) place
    (answer_text f name (answer.Partial size rules multis))
partial-has f place size rules multis name =
    let header : List ℕ = (codes "(goal " ++ name ++ codes " partial " ++ decimal size) ++ 10 ∷ [] in
    let bs : List ℕ = flat_map (rule_text f) rules in
    let cs : List ℕ = flat_map (open_text f) multis in
    let long = header-length (codes "(goal ") name (codes " partial ") (decimal size) in
    record {
      before = header;
      after = cs ++ (41 ∷ 10 ∷ []);
      whole = append_assoc (header ++ bs) cs (41 ∷ 10 ∷ []) ∙ append_assoc header bs (cs ++ (41 ∷ 10 ∷ []));
      place = omega (arith, long);
    }

partial-written : (f : File) → OpsAreNamed f → (k size : ℕ) (rules : List Pattern) (multis : List (List ℕ))
    (name : List ℕ) → IsNamed (goal_names f) k name → IsAnswerText f (answer.Partial size rules multis) → (place : ℕ)
    → IsTreeOf 4 (AnswerIn f k name (answer.Partial size rules multis) place) place
    (answer_text f name (answer.Partial size rules multis))
partial-written f ops k size rules multis name named is place =
    let bs : List ℕ = flat_map (rule_text f) rules in
    let cs : List ℕ = flat_map (open_text f) multis in
    let at : ℕ = after_name place name in
    let first : ℕ = after_size place name (codes "partial") size in
    let Both : List Tree → Type 0 = Parted (RulesAt f rules first) (Pairwise (OpenReads f) multis) in
    let a : GoalAnswer = answer.Partial size rules multis in
    let Sized : List Tree → Type 0 = Headed (IsWordOf (decimal size)) Both in
    let w = goal-line f k (AnswerReads f k a first) name (Headed (IsWordOf (codes "partial")) Sized) place
    (codes "partial" ++ (codes " " ++ (decimal size ++ (10 ∷ (bs ++ cs))))) named
    (λ n reads. after-word (AnswerReads f k a first) n (codes "partial") Sized
    (after-size (AnswerReads f k a first) (partial_of n) size Both is.size
    (partial-end f k first size rules multis n reads)))
    (sized-series Both at (codes "partial") size (bs ++ cs) (word 3 at (codes "partial") (omega arith) refl) is.size
    (both-series 3 (RulesAt f rules first) (Pairwise (OpenReads f) multis) first bs cs
    (rules-series f ops rules is.rules first) (opens-series f ops multis is.undecided (first + length bs))
    (opens-end f multis))) in
    tree-known 4 (AnswerOf f k a first) (AnswerIn f k name a place) place (answer_text f name a)
    (λ tree r. record { first = first; reads = r; rules = partial-has f place size rules multis name })
    (tree-same 4 (AnswerOf f k a first) place _ (answer_text f name a) (partial-grouped name (decimal size) bs cs) w)

-- an answer without rules
bare-has : (f : File) (a : GoalAnswer) (place : ℕ) (bytes : List ℕ) → rules_of a ≡ [] → HasRules f a place place bytes
bare-has f a place bytes none =
    record {
      before = [];
      after = bytes;
      whole = ap (λ ps. flat_map (rule_text f) ps ++ bytes) (sym none);
      place = omega arith;
    }

none-written : (f : File) (k : ℕ) (name : List ℕ) → IsNamed (goal_names f) k name → (place : ℕ)
    → IsTreeOf 4 (AnswerIn f k name answer.None place) place (answer_text f name answer.None)
none-written f k name named place =
    let at : ℕ = after_name place name in
    let w = goal-line f k (AnswerReads f k answer.None place) name (Headed (IsWordOf (codes "none")) IsLast) place
    (codes "none") named
    (λ n reads. after-word (AnswerReads f k answer.None place) n (codes "none") IsLast (none-end f k place n reads))
    (one-tree 3 (IsWordOf (codes "none")) IsLast at (codes "none") (word 3 at (codes "none") (omega arith) refl)
    refl) in
    tree-known 4 (AnswerOf f k answer.None place) (AnswerIn f k name answer.None place) place
    (answer_text f name answer.None)
    (λ tree r. record {
      first = place;
      reads = r;
      rules = bare-has f answer.None place (answer_text f name answer.None) refl;
    })
    (tree-same 4 (AnswerOf f k answer.None place) place _ (answer_text f name answer.None)
    (ap (λ bs. codes "(goal " ++ (bs ++ 10 ∷ [])) (append_assoc name (codes " none") (codes ")"))) w)

stopped-grouped : (name bs : List ℕ) → goal_list name (codes "stopped" ++ (10 ∷ bs)) ++ 10 ∷ []
    ≡ ((codes "(goal " ++ name ++ codes " stopped") ++ 10 ∷ []) ++ bs ++ (41 ∷ 10 ∷ [])
stopped-grouped name bs =
    ap (λ cs. codes "(goal " ++ cs)
    (closed (name ++ (codes " stopped" ++ (10 ∷ bs)))
    ∙ ap (λ cs. cs ++ (41 ∷ 10 ∷ [])) (sym (append_assoc name (codes " stopped") (10 ∷ bs))
    ∙ sym (append_assoc (name ++ codes " stopped") (10 ∷ []) bs)))

stopped-written : (f : File) → OpsAreNamed f → (k : ℕ) (multis : List (List ℕ)) (name : List ℕ)
    → IsNamed (goal_names f) k name → IsAnswerText f (answer.Stopped multis) → (place : ℕ)
    → IsTreeOf 4 (AnswerIn f k name (answer.Stopped multis) place) place (answer_text f name (answer.Stopped multis))
stopped-written f ops k multis name named is place =
    let bs : List ℕ = flat_map (open_text f) multis in
    let Rest : List Tree → Type 0 = Pairwise (OpenReads f) multis in
    let at : ℕ = after_name place name in
    let next : ℕ = at + length (codes "stopped") in
    let a : GoalAnswer = answer.Stopped multis in
    let w = goal-line f k (AnswerReads f k a place) name (Headed (IsWordOf (codes "stopped")) Rest) place
    (codes "stopped" ++ (10 ∷ bs)) named
    (λ n reads. after-word (AnswerReads f k a place) n (codes "stopped") Rest
    (stopped-end f k place multis n reads))
    (more-trees 3 (IsWordOf (codes "stopped")) Rest at (codes "stopped") (10 ∷ bs)
    (word 3 at (codes "stopped") (omega arith) refl)
    (line-before 3 Rest next bs (opens-series f ops multis is.undecided (next + 1))) (λ rest e. refl)) in
    tree-known 4 (AnswerOf f k a place) (AnswerIn f k name a place) place (answer_text f name a)
    (λ tree r. record { first = place; reads = r; rules = bare-has f a place (answer_text f name a) refl })
    (tree-same 4 (AnswerOf f k a place) place _ (answer_text f name a) (stopped-grouped name bs) w)

answer-written : (f : File) → OpsAreNamed f → (k : ℕ) (name : List ℕ) → IsNamed (goal_names f) k name
    → (a : GoalAnswer) → IsAnswerText f a → (place : ℕ)
    → IsTreeOf 4 (AnswerIn f k name a place) place (answer_text f name a)
answer-written f ops k name named (answer.Complete size rules) is place =
    complete-written f ops k size rules name named is place
answer-written f ops k name named (answer.Partial size rules multis) is place =
    partial-written f ops k size rules multis name named is place
answer-written f ops k name named answer.None is place = none-written f k name named place
answer-written f ops k name named (answer.Stopped multis) is place =
    stopped-written f ops k multis name named is place

-- ---- all answers

-- answers for goals of these names, from a place on
abbrev pub AreAnswerTexts : File → ℕ → List Goal → List GoalAnswer → Type 0
AreAnswerTexts f k [] [] = Unit {0}
AreAnswerTexts f k (g ∷ gs) (a ∷ rest) =
    (IsNamed (goal_names f) k g.name × IsAnswerText f a) × AreAnswerTexts f (k + 1) gs rest
AreAnswerTexts f k [] (a ∷ rest) = ⊥
AreAnswerTexts f k (g ∷ gs) [] = ⊥

-- the items of a library from a place on, each of which is read as the answer for its goal
abbrev pub AnswersRead : File → ℕ → List Goal → List GoalAnswer → ℕ → List Tree → Type 0
AnswersRead f k [] [] start [] = Unit {0}
AnswersRead f k (g ∷ gs) (a ∷ rest) start (t ∷ ts) =
    AnswerIn f k g.name a start t × AnswersRead f (k + 1) gs rest (start + length (answer_text f g.name a)) ts
AnswersRead f k [] [] start (t ∷ ts) = ⊥
AnswersRead f k [] (a ∷ rest) start trees = ⊥
AnswersRead f k (g ∷ gs) [] start trees = ⊥
AnswersRead f k (g ∷ gs) (a ∷ rest) start [] = ⊥

answer-starts : (f : File) (name : List ℕ) (a : GoalAnswer) (rest : List ℕ) → Ends (answer_text f name a ++ rest)
answer-starts f name (answer.Complete size rules) rest = refl
answer-starts f name (answer.Partial size rules multis) rest = refl
answer-starts f name answer.None rest = refl
answer-starts f name (answer.Stopped multis) rest = refl

answers-end : (f : File) (k : ℕ) (gs : List Goal) (answers : List GoalAnswer) → AreAnswerTexts f k gs answers
    → EndsWords (answers_text f gs answers)
answers-end f k [] [] h rest e = e
answers-end f k [] (a ∷ answers) h rest e = absurd h
answers-end f k (g ∷ gs) [] h rest e = absurd h
answers-end f k (g ∷ gs) (a ∷ answers) h rest e =
    subst Ends (sym (append_assoc (answer_text f g.name a) (answers_text f gs answers) rest))
    (answer-starts f g.name a (answers_text f gs answers ++ rest))

answers-written : (f : File) → OpsAreNamed f → (k : ℕ) (gs : List Goal) (answers : List GoalAnswer)
    → AreAnswerTexts f k gs answers → (place : ℕ)
    → AreTreesOf 4 (AnswersRead f k gs answers place) place (answers_text f gs answers)
answers-written f ops k [] [] h place = no-trees 4 place (AnswersRead f k [] [] place) tt
answers-written f ops k [] (a ∷ answers) h place = absurd h
answers-written f ops k (g ∷ gs) [] h place = absurd h
answers-written f ops k (g ∷ gs) (a ∷ answers) h place =
    let bs : List ℕ = answer_text f g.name a in
    let w = answer-written f ops k g.name h.0.0 a h.0.1 place in
    let v = answers-written f ops (k + 1) gs answers h.1 (place + length bs) in
    record {
      trees = Then w.tree v.trees;
      spelled = both-spelled place bs (answers_text f gs answers) (tree_tokens w.tree) (flatten v.trees) w.spelled
          v.spelled (answers-end f (k + 1) gs answers h.1);
      shallow = max-le w.shallow v.shallow;
      known = (w.known, v.known);
    }

-- ---- the head

abbrev pub IsHeadTree : Tree → Type 0
IsHeadTree tree = is_head tree ≡ true

abbrev HeadMembers : List Tree → Type 0
HeadMembers = Headed (IsWordOf (codes "isel-library")) (Headed (IsWordOf (codes "1")) IsLast)

head-from : (members : List Tree) → HeadMembers members → is_head_from members ≡ true
head-from [] h = absurd h
head-from (t ∷ []) h = absurd h.1
head-from (t ∷ v ∷ (x ∷ xs)) h = absurd (cc h.1.1)
head-from (t ∷ v ∷ []) h =
    and-both (is_word (codes "isel-library") t) (is_word (codes "1") v)
    (ap (λ o. option_map_or (bytes_eq (codes "isel-library")) o false) h.0)
    (ap (λ o. option_map_or (bytes_eq (codes "1")) o false) h.1.0)

head-written : IsTreeOf 4 IsHeadTree 0 (codes "(isel-library 1)" ++ 10 ∷ [])
head-written =
    let members =
    word-and 3 (IsWordOf (codes "isel-library")) (Headed (IsWordOf (codes "1")) IsLast) 1 (codes "isel-library")
    (codes "1") (word 3 1 (codes "isel-library") (omega arith) refl)
    (one-tree 3 (IsWordOf (codes "1")) IsLast 14 (codes "1") (word 3 14 (codes "1") (omega arith) refl) refl) in
    in-line 4 IsHeadTree 0 (codes "(isel-library 1)")
    (tree-known 4 (IsListOf HeadMembers) IsHeadTree 0 (codes "(isel-library 1)")
    (λ tree h. ap (λ o. option_map_or is_head_from o false) h.1 ∙ head-from h.0 h.2)
    (in-list 3 HeadMembers 0 (codes "isel-library" ++ (codes " " ++ codes "1")) members))

-- the answers follow the head's line, which has 17 bytes
pub library-written : (f : File) → OpsAreNamed f → (answers : List GoalAnswer) → AreAnswerTexts f 0 f.goals answers
    → AreTreesOf 4 (Headed IsHeadTree (AnswersRead f 0 f.goals answers 17)) 0 (library_text f answers)
library-written f ops answers h =
    more-trees 4 IsHeadTree (AnswersRead f 0 f.goals answers 17) 0 (codes "(isel-library 1)" ++ 10 ∷ [])
    (answers_text f f.goals answers) head-written (answers-written f ops 0 f.goals answers h 17)
    (answers-end f 0 f.goals answers h)
