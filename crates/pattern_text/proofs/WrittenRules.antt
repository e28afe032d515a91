-- The text of a rule and of an open claim: what it is read as.
use Rattle.std.proofs.Common.{◌≡◌, ◌∙◌, ℕ, ◌+◌, ◌≤◌, true, false, List, [], ◌∷◌, ◌++◌, length, map, Some, None, Ok}
use Rattle.std.proofs.Common.{codes, refl, sym, ap, arith, append_assoc, slice_get, if◌then◌else◌}
use Rattle.std.specs.Prelude.{nat_le, option_and_then}
use Rattle.std.specs.List.{list_all}
use Rattle.std.specs.Option.{option_map_or}
use Rattle.std.specs.Str.{bytes_eq}
use Rattle.list_lemmas.proofs.Bools.{and-both, le_true}
use Rattle.list_lemmas.proofs.Lists.{Each}
use Rattle.sexp_read.specs.Tree.{Tree, members_of, from_of}
use Rattle.isel_spec.specs.File.{File, Operation}
use Rattle.multiset_rank.specs.Multisets.{never_falls}
use Rattle.pattern_core.specs.declared.pattern.Pattern.{Pattern}
use Rattle.pattern_core.specs.Pattern.{Pairwise}
use Rattle.pattern_text.specs.declared.fault.LibKind.TheVariants as fault
use Rattle.pattern_text.specs.Text.{joined, source_text, node_text, op_name, rule_text, open_text}
use Rattle.pattern_text.specs.Steps.{span_of, and_then, or_fault}
use Rattle.pattern_text.specs.Form.{RuleForm, where_true, each, is_word, source_in, node_in, word_in, rule_from}
use Rattle.pattern_text.specs.Form.{open_from}
use Rattle.pattern_text.specs.Items.{begins, is_rule, is_open}
use Rattle.pattern_text.specs.Rules.{pattern_read, form_read, ops_read, multi_of, open_read, is_small_source}
use Rattle.pattern_text.proofs.NamedPlaces.{OpsAreNamed}
use Rattle.pattern_text.proofs.WrittenTrees.{IsTreeOf, IsWordOf, Headed, IsLast, IsListOf, IsListAt, IsTextOf}
use Rattle.pattern_text.proofs.WrittenTrees.{word, tree-known, tree-same, in-list, in-line, space-before, one-tree}
use Rattle.pattern_text.proofs.WrittenTrees.{list-at, word-and, spaced-series}
use Rattle.pattern_text.proofs.WrittenNodes.{OpReads, op-written, SourceReads, sources-written, sources-read, NodeReads}
use Rattle.pattern_text.proofs.WrittenNodes.{IsNodeOf, nodes-written, nodes-read}

-- ---- rules

-- a pattern of operations of the file, with small numbers
pub record IsPatternText (f : File) (p : Pattern) : Type 0 where
  pub nodes : Each (IsNodeOf f) p.nodes
  pub results : list_all is_small_source p.results ≡ true

pub record RuleReads (f : File) (p : Pattern) (tree : Tree) : Type 0 where
  pub is : is_rule tree ≡ true
  pub read : form_read f tree ≡ Ok p

-- a rule whose line stands at a place
pub record RuleAt (f : File) (p : Pattern) (place : ℕ) (tree : Tree) : Type 0 where
  pub reads : RuleReads f p tree
  pub from : from_of tree ≡ place + 1

abbrev RuleMembers : File → Pattern → List Tree → Type 0
RuleMembers f p =
    Headed (IsWordOf (codes "rule")) (Headed (IsListOf (Pairwise (NodeReads f) p.nodes))
    (Headed (IsListOf (Pairwise SourceReads p.results)) IsLast))

-- what the members of a rule's list are read as
record RuleFrom (f : File) (p : Pattern) (members : List Tree) : Type 0 where
  headed : begins (codes "rule") members ≡ true
  form : RuleForm
  formed : rule_from members ≡ Some form
  read : pattern_read f form ≡ Ok p

rule-from : (f : File) (p : Pattern) (members : List Tree) → RuleMembers f p members → RuleFrom f p members
rule-from f p [] h = absurd h
rule-from f p (t ∷ []) h = absurd h.1
rule-from f p (t ∷ ns ∷ []) h = absurd h.1.1
rule-from f p (t ∷ ns ∷ ss ∷ (x ∷ xs)) h = absurd (cc h.1.1.1)
rule-from f p (t ∷ ns ∷ ss ∷ []) h =
    let headed : is_word (codes "rule") t ≡ true = ap (λ o. option_map_or (bytes_eq (codes "rule")) o false) h.0 in
    let nodes = nodes-read f p.nodes h.1.0.0 h.1.0.2 in
    let formed : option_and_then (each node_in) (members_of ns) ≡ Some nodes.forms =
    ap (option_and_then (each node_in)) h.1.0.1 ∙ nodes.formed in
    let sources : option_and_then (each source_in) (members_of ss) ≡ Some p.results =
    ap (option_and_then (each source_in)) h.1.1.0.1 ∙ sources-read p.results h.1.1.0.0 h.1.1.0.2 in
    record {
      headed = headed;
      form = record { nodes = nodes.forms; results = p.results };
      formed = λ i. if headed i
          then option_and_then (λ (ns : List _). option_and_then (λ ss. Some (record { nodes = ns; results = ss }))
          (sources i)) (formed i)
          else None;
      read = ap (λ r. and_then r (λ ns. Ok (record { nodes = ns; results = p.results }))) nodes.read;
    }

rule-reads : (f : File) (p : Pattern) (tree : Tree) → IsListOf (RuleMembers f p) tree → RuleReads f p tree
rule-reads f p tree h =
    let from = rule-from f p h.0 h.2 in
    record {
      is = ap (λ o. option_map_or (begins (codes "rule")) o false) h.1 ∙ from.headed;
      read = ap (λ o. and_then (or_fault fault.Shape (span_of tree) (option_and_then rule_from o)) (pattern_read f)) h.1
          ∙ ap (λ o. and_then (or_fault fault.Shape (span_of tree) o) (pattern_read f)) from.formed ∙ from.read;
    }

-- the text of a list's members
abbrev listed : List ℕ → List ℕ
listed bytes = codes "(" ++ bytes ++ codes ")"

rule-grouped : (ns ss : List ℕ)
    → codes " " ++ listed (codes "rule" ++ (codes " " ++ (listed ns ++ (codes " " ++ listed ss))))
    ≡ codes " (rule (" ++ ns ++ codes ") (" ++ ss ++ codes "))"
rule-grouped ns ss =
    ap (λ bs. codes " (rule (" ++ bs) (
    append_assoc (ns ++ codes ")") (codes " " ++ listed ss) (codes ")")
    ∙ append_assoc ns (codes ")") ((codes " " ++ listed ss) ++ codes ")")
    ∙ ap (λ bs. ns ++ (codes ") (" ++ bs)) (append_assoc ss (codes ")") (codes ")"))
    ∙ sym (append_assoc ns (codes ") (") (ss ++ codes "))"))
    ∙ sym (append_assoc (ns ++ codes ") (") ss (codes "))")))

pub rule-written : (f : File) → OpsAreNamed f → (p : Pattern) → IsPatternText f p → (place : ℕ)
    → IsTreeOf 3 (RuleAt f p place) place (rule_text f p)
rule-written f named p is place =
    let ns : List ℕ = joined (map (node_text f) p.nodes) in
    let ss : List ℕ = joined (map source_text p.results) in
    let start : ℕ = place + 1 + 1 + length (codes "rule") + 1 in
    let nodes = in-list 1 (Pairwise (NodeReads f) p.nodes) start ns
    (spaced-series 1 (NodeReads f) (node_text f) p.nodes (nodes-written f named p.nodes is.nodes) (start + 1)) in
    let next : ℕ = start + length (listed ns) + 1 in
    let results = in-list 1 (Pairwise SourceReads p.results) next ss
    (spaced-series 1 SourceReads source_text p.results (sources-written 1 p.results is.results) (next + 1)) in
    let members =
    word-and 2 (IsWordOf (codes "rule")) _ (place + 1 + 1) (codes "rule") (listed ns ++ (codes " " ++ listed ss))
    (word 2 (place + 1 + 1) (codes "rule") (omega arith) refl)
    (word-and 2 (IsListOf (Pairwise (NodeReads f) p.nodes)) _ start (listed ns) (listed ss) nodes
    (one-tree 2 (IsListOf (Pairwise SourceReads p.results)) IsLast next (listed ss) results refl)) in
    let bytes : List ℕ = codes "rule" ++ (codes " " ++ (listed ns ++ (codes " " ++ listed ss))) in
    let tree = tree-known 3 (IsListAt (place + 1) (RuleMembers f p)) (RuleAt f p place) (place + 1) (listed bytes)
    (λ t h. record { reads = rule-reads f p t h.0; from = h.1 })
    (list-at 2 (RuleMembers f p) (place + 1) bytes members) in
    tree-same 3 (RuleAt f p place) place ((codes " " ++ listed bytes) ++ 10 ∷ []) (rule_text f p)
    (ap (λ bs. bs ++ 10 ∷ []) (rule-grouped ns ss))
    (in-line 3 (RuleAt f p place) place (codes " " ++ listed bytes)
    (space-before 3 (RuleAt f p place) place (listed bytes) tree))

-- ---- open claims

-- at most six numbers of operations of the file, which never fall
pub record IsMultiText (f : File) (multi : List ℕ) : Type 0 where
  pub few : length multi ≤ 6
  pub rising : never_falls multi ≡ true
  pub in_file : Each (λ op. (o : Operation) × (slice_get f.ops op ≡ Some o)) multi

pub record OpenReads (f : File) (multi : List ℕ) (tree : Tree) : Type 0 where
  pub is : is_open tree ≡ true
  pub no_rule : is_rule tree ≡ false
  pub read : open_read f tree ≡ Ok multi

abbrev OpenMembers : File → List ℕ → List Tree → Type 0
OpenMembers f multi = Headed (IsWordOf (codes "open")) (Headed (IsListOf (Pairwise (OpReads f) multi)) IsLast)

words-given : (f : File) (multi : List ℕ) (trees : List Tree) → Pairwise (OpReads f) multi trees
    → each word_in trees ≡ Some trees
words-given f [] [] h = refl
words-given f [] (t ∷ ts) h = absurd h
words-given f (op ∷ ops) [] h = absurd h
words-given f (op ∷ ops) (t ∷ ts) h =
    let rest : each word_in ts ≡ Some ts = words-given f ops ts h.1 in
    λ i. option_and_then (λ y. option_and_then (λ ys. Some (y ∷ ys)) (rest i)) (h.0.is_word i)

ops-given : (f : File) (multi : List ℕ) (trees : List Tree) → Pairwise (OpReads f) multi trees
    → ops_read f trees ≡ Ok multi
ops-given f [] [] h = refl
ops-given f [] (t ∷ ts) h = absurd h
ops-given f (op ∷ ops) [] h = absurd h
ops-given f (op ∷ ops) (t ∷ ts) h =
    let rest : ops_read f ts ≡ Ok ops = ops-given f ops ts h.1 in
    λ i. and_then (h.0.read i) (λ op. and_then (rest i) (λ ops. Ok (op ∷ ops)))

record OpenFrom (f : File) (multi : List ℕ) (members : List Tree) : Type 0 where
  headed : begins (codes "open") members ≡ true
  no_rule : begins (codes "rule") members ≡ false
  words : List Tree
  formed : open_from members ≡ Some words
  read : ops_read f words ≡ Ok multi

open-from : (f : File) (multi : List ℕ) (members : List Tree) → OpenMembers f multi members
    → OpenFrom f multi members
open-from f multi [] h = absurd h
open-from f multi (t ∷ []) h = absurd h.1
open-from f multi (t ∷ ops ∷ (x ∷ xs)) h = absurd (cc h.1.1)
open-from f multi (t ∷ ops ∷ []) h =
    let headed : is_word (codes "open") t ≡ true = ap (λ o. option_map_or (bytes_eq (codes "open")) o false) h.0 in
    let formed : option_and_then (each word_in) (members_of ops) ≡ Some h.1.0.0 =
    ap (option_and_then (each word_in)) h.1.0.1 ∙ words-given f multi h.1.0.0 h.1.0.2 in
    record {
      headed = headed;
      no_rule = ap (λ o. option_map_or (bytes_eq (codes "rule")) o false) h.0;
      words = h.1.0.0;
      formed = λ i. if headed i then formed i else None;
      read = ops-given f multi h.1.0.0 h.1.0.2;
    }

open-reads : (f : File) (multi : List ℕ) → length multi ≤ 6 → never_falls multi ≡ true → (tree : Tree)
    → IsListOf (OpenMembers f multi) tree → OpenReads f multi tree
open-reads f multi few rising tree h =
    let from = open-from f multi h.0 h.2 in
    let fits = and-both (nat_le (length multi) 6) (never_falls multi) (le_true (length multi) 6 few) rising in
    record {
      is = ap (λ o. option_map_or (begins (codes "open")) o false) h.1 ∙ from.headed;
      no_rule = ap (λ o. option_map_or (begins (codes "rule")) o false) h.1 ∙ from.no_rule;
      read = ap (λ o. and_then (or_fault fault.Shape (span_of tree) (option_and_then open_from o))
          (λ words. and_then (ops_read f words) (λ ops. or_fault fault.Shape (span_of tree) (multi_of ops)))) h.1
          ∙ ap (λ o. and_then (or_fault fault.Shape (span_of tree) o)
          (λ words. and_then (ops_read f words) (λ ops. or_fault fault.Shape (span_of tree) (multi_of ops))))
          from.formed
          ∙ ap (λ r. and_then r (λ ops. or_fault fault.Shape (span_of tree) (multi_of ops))) from.read
          ∙ ap (λ b. or_fault fault.Shape (span_of tree) (where_true b multi)) fits;
    }

multi-written : (f : File) → OpsAreNamed f → (multi : List ℕ)
    → Each (λ op. (o : Operation) × (slice_get f.ops op ≡ Some o)) multi
    → Each (IsTextOf 1 (OpReads f) (λ op. op_name (slice_get f.ops op))) multi
multi-written f named [] h = tt
multi-written f named (op ∷ ops) h = (op-written f named 1 op h.0.0 h.0.1, multi-written f named ops h.1)

open-grouped : (bs : List ℕ) → codes " " ++ listed (codes "open" ++ (codes " " ++ listed bs))
    ≡ codes " (open (" ++ bs ++ codes "))"
open-grouped bs = ap (λ cs. codes " (open (" ++ cs) (append_assoc bs (codes ")") (codes ")"))

pub open-written : (f : File) → OpsAreNamed f → (multi : List ℕ) → IsMultiText f multi
    → IsTextOf 3 (OpenReads f) (open_text f) multi
open-written f named multi is place =
    let bs : List ℕ = joined (map (λ op. op_name (slice_get f.ops op)) multi) in
    let start : ℕ = place + 1 + 1 + length (codes "open") + 1 in
    let ops = in-list 1 (Pairwise (OpReads f) multi) start bs
    (spaced-series 1 (OpReads f) (λ op. op_name (slice_get f.ops op)) multi (multi-written f named multi is.in_file)
    (start + 1)) in
    let members =
    word-and 2 (IsWordOf (codes "open")) _ (place + 1 + 1) (codes "open") (listed bs)
    (word 2 (place + 1 + 1) (codes "open") (omega arith) refl)
    (one-tree 2 (IsListOf (Pairwise (OpReads f) multi)) IsLast start (listed bs) ops refl) in
    let bytes : List ℕ = codes "open" ++ (codes " " ++ listed bs) in
    let tree = tree-known 3 (IsListOf (OpenMembers f multi)) (OpenReads f multi) (place + 1) (listed bytes)
    (open-reads f multi is.few is.rising) (in-list 2 (OpenMembers f multi) (place + 1) bytes members) in
    tree-same 3 (OpenReads f multi) place ((codes " " ++ listed bytes) ++ 10 ∷ []) (open_text f multi)
    (ap (λ bs. bs ++ 10 ∷ []) (open-grouped bs))
    (in-line 3 (OpenReads f multi) place (codes " " ++ listed bytes)
    (space-before 3 (OpenReads f multi) place (listed bytes) tree))
