-- The text of a rule's nodes and sources, and of operations by name: what it is read as.
use Rattle.std.proofs.Common.{◌≡◌, ◌∙◌, ℕ, ◌+◌, ◌-◌, ◌^◌, ◌<◌, true, false, List, [], ◌∷◌, ◌++◌, length}
use Rattle.std.proofs.Common.{Option, Some, None, Ok, codes, refl, sym, ap, subst, arith, append_assoc, slice_get, cond}
use Rattle.std.proofs.Common.{take, drop, eqb, not, ◌&&◌}
use Rattle.std.specs.Prelude.{nat_le, option_and_then, option_map, unwrap_or}
use Rattle.std.specs.List.{list_all, flat_map, position, position_or_len}
use Rattle.std.specs.Option.{is_some}
use Rattle.std.specs.Str.{bytes_eq}
use Rattle.std.specs.Fmt.{decimal}
use Rattle.std.proofs.Math.Seq.{take-append_seam, drop-append_seam}
use Rattle.std.proofs.lemmas.List.{length-append}
use Rattle.std.proofs.lemmas.List.Folds.{list_all-append}
use Rattle.std.proofs.lemmas.Bool.Decides.{nat_tests}
use Rattle.list_lemmas.proofs.Bools.{and_parts, and-both, and_false, le-from_test}
use Rattle.list_lemmas.proofs.Lists.{Each}
use Rattle.sexp_read.specs.Words.{is_digit, is_numeral, decimal_value}
use Rattle.sexp_read.specs.Tree.{Tree, word_of}
use Rattle.isel_spec.specs.File.{File, Operation}
use Rattle.pattern_core.specs.declared.pattern.Src.{Src}
use Rattle.pattern_core.specs.declared.pattern.Src.TheVariants.{Input, Out}
use Rattle.pattern_core.specs.declared.pattern.Node.{Node}
use Rattle.pattern_core.specs.Pattern.{Pairwise}
use Rattle.pattern_text.specs.declared.fault.LibKind.TheVariants as fault
use Rattle.pattern_text.specs.Text.{source_text, node_text, op_name}
use Rattle.pattern_text.specs.Steps.{span_of, and_then, or_fault}
use Rattle.pattern_text.specs.Form.{NodeForm, where_true, each, number, number_in, out_at, out_of, source_of, source_in}
use Rattle.pattern_text.specs.Form.{attr_count, node_of, node_from, node_in, word_in}
use Rattle.pattern_text.specs.Rules.{op_read, node_read, nodes_read, is_small_source, is_small_node}
use Rattle.pattern_text.proofs.Spelling.{Ends, is_word_byte}
use Rattle.pattern_text.proofs.Decimals.{decimal-denotes, decimal-word, decimal-some}
use Rattle.pattern_text.proofs.NamedPlaces.{IsNamed, OpsAreNamed, op_names, name-word, name-some, found-at}
use Rattle.pattern_text.proofs.WrittenTrees.{IsTreeOf, IsWordOf, Headed, Parted, IsListOf, IsTextOf, EndsWords}
use Rattle.pattern_text.proofs.WrittenTrees.{word, tree-known, tree-same, in-list, space-before, more-trees}
use Rattle.pattern_text.proofs.WrittenTrees.{both-series}
use Rattle.pattern_text.proofs.WrittenTrees.{series, series-ends}

-- ---- operations by name

pub record OpReads (f : File) (op : ℕ) (tree : Tree) : Type 0 where
  pub is_word : word_in tree ≡ Some tree
  pub read : op_read f tree ≡ Ok op

pub op-written : (f : File) → OpsAreNamed f → (deep op : ℕ) (o : Operation) → slice_get f.ops op ≡ Some o
    → IsTextOf deep (OpReads f) (λ op. op_name (slice_get f.ops op)) op
op-written f named deep op o e place =
    let n : IsNamed (op_names f) op o.name = named op o e in
    tree-same deep (OpReads f op) place o.name (op_name (slice_get f.ops op)) (ap op_name (sym e))
    (tree-known deep (IsWordOf o.name) (OpReads f op) place o.name
    (λ tree is. record {
      is_word = ap (option_map (λ w. tree)) is;
      read = ap (λ w. or_fault fault.Unknown (span_of tree) (position (bytes_eq (unwrap_or w [])) (op_names f))) is
          ∙ ap (or_fault fault.Unknown (span_of tree)) n.found;
    })
    (word deep place o.name (name-some o.name n.is) (name-word o.name n.is)))

-- ---- numbers

number-read : (n : ℕ) → n < 2 ^ 64 → number (decimal n) ≡ Some n
number-read n small =
    let d = decimal-denotes n small in
    ap (λ b. where_true b (decimal_value (decimal n))) d.numeral ∙ ap Some d.value

abbrev pub AttrReads : ℕ → Tree → Type 0
AttrReads n tree = number_in tree ≡ Some n

number-written : (deep place n : ℕ) → n < 2 ^ 64 → IsTreeOf deep (AttrReads n) place (decimal n)
number-written deep place n small =
    tree-known deep (IsWordOf (decimal n)) (AttrReads n) place (decimal n)
    (λ tree is. ap (option_and_then number) is ∙ number-read n small)
    (word deep place (decimal n) (decimal-some n small) (decimal-word n small))

abbrev attr_text : ℕ → List ℕ
attr_text a = codes " " ++ decimal a

attr-written : (deep n : ℕ) → nat_le n (2 ^ 64 - 1) ≡ true → IsTextOf deep AttrReads attr_text n
attr-written deep n h place =
    let most = le-from_test n (2 ^ 64 - 1) h in
    space-before deep (AttrReads n) place (decimal n) (number-written deep (place + 1) n (omega (arith, most)))

attrs-written : (deep : ℕ) (attrs : List ℕ) → list_all (λ a. nat_le a (2 ^ 64 - 1)) attrs ≡ true
    → Each (IsTextOf deep AttrReads attr_text) attrs
attrs-written deep [] h = tt
attrs-written deep (a ∷ attrs) h =
    let parts = and_parts (nat_le a (2 ^ 64 - 1)) (list_all (λ a. nat_le a (2 ^ 64 - 1)) attrs) h in
    (attr-written deep a parts.0, attrs-written deep attrs parts.1)

-- ---- sources

not_numeral : (b : ℕ) (ds : List ℕ) → is_digit b ≡ false → is_numeral (b ∷ ds) ≡ false
not_numeral b [] h = h
not_numeral b (c ∷ ds) h =
    and_false (not (eqb b 48)) (list_all is_digit (b ∷ c ∷ ds)) (ap (λ x. x && list_all is_digit (c ∷ ds)) h)

no_dot : (d : ℕ) → is_digit d ≡ true → eqb d 46 ≡ false
no_dot d h = grind (arith, nat_tests)

dot-after : (ds rest : List ℕ) → list_all is_digit ds ≡ true
    → position_or_len (λ b. eqb b 46) (ds ++ (46 ∷ rest)) ≡ length ds
dot-after [] rest h = refl
dot-after (d ∷ ds) rest h =
    let parts = and_parts (is_digit d) (list_all is_digit ds) h in
    let one : 1 + length ds ≡ length (d ∷ ds) = omega arith in
    ap (λ b. cond (not b) (1 + position_or_len (λ b. eqb b 46) (ds ++ (46 ∷ rest))) 0) (no_dot d parts.0)
    ∙ ap (λ n. 1 + n) (dot-after ds rest parts.1) ∙ one

dot-found : (ds rest : List ℕ) → list_all is_digit ds ≡ true
    → position (λ b. eqb b 46) (ds ++ (46 ∷ rest)) ≡ Some (length ds)
dot-found ds rest h =
    found-at (λ b. eqb b 46) (ds ++ (46 ∷ rest)) (length ds) (dot-after ds rest h)
    (omega (arith, length-append ds (46 ∷ rest)))

two-some : {A B C : Type 0} (make : A → B → C) (o : Option A) (p : Option B) (a : A) (b : B) → o ≡ Some a → p ≡ Some b
    → option_and_then (λ a. option_and_then (λ b. Some (make a b)) p) o ≡ Some (make a b)
two-some make o p a b h k = λ i. option_and_then (λ a. option_and_then (λ b. Some (make a b)) (k i)) (h i)

after-dot : (ds rest : List ℕ) → drop (length ds + 1) (ds ++ (46 ∷ rest)) ≡ rest
after-dot ds rest =
    let long : length (ds ++ 46 ∷ []) ≡ length ds + 1 = length-append ds (46 ∷ []) in
    (λ i. drop (sym long i) (sym (append_assoc ds (46 ∷ []) rest) i)) ∙ drop-append_seam (ds ++ 46 ∷ []) rest

out-at : (j r : ℕ) → j < 2 ^ 64 → r < 2 ^ 64
    → out_at (decimal j ++ (46 ∷ decimal r)) (length (decimal j)) ≡ Some (Out j r)
out-at j r small few =
    two-some (λ j r. Out j r) (number (take (length (decimal j)) (decimal j ++ (46 ∷ decimal r))))
    (number (drop (length (decimal j) + 1) (decimal j ++ (46 ∷ decimal r)))) j r
    (ap number (take-append_seam (decimal j) (46 ∷ decimal r)) ∙ number-read j small)
    (ap number (after-dot (decimal j) (decimal r)) ∙ number-read r few)

out-of : (j r : ℕ) → j < 2 ^ 64 → r < 2 ^ 64 → out_of ((decimal j ++ 46 ∷ []) ++ decimal r) ≡ Some (Out j r)
out-of j r small few =
    let d = decimal-denotes j small in
    ap out_of (append_assoc (decimal j) (46 ∷ []) (decimal r))
    ∙ ap (option_and_then (out_at (decimal j ++ (46 ∷ decimal r)))) (dot-found (decimal j) (decimal r) d.digits)
    ∙ out-at j r small few

-- what a source's word is
record IsSourceWord (s : Src) : Type 0 where
  some : 0 < length (source_text s)
  letters : list_all is_word_byte (source_text s) ≡ true
  read : source_of (source_text s) ≡ Some s
  no_number : number (source_text s) ≡ None

input-word : (k : ℕ) → k < 2 ^ 64 → IsSourceWord (Input k)
input-word k small = record {
  some = omega arith;
  letters = and-both (is_word_byte 105) (list_all is_word_byte (decimal k)) refl (decimal-word k small);
  read = ap (option_map (λ k. Input k)) (number-read k small);
  no_number = ap (λ b. where_true b (decimal_value (105 ∷ decimal k))) (not_numeral 105 (decimal k) refl);
}

out-letters : (ds es : List ℕ) → list_all is_word_byte ds ≡ true → list_all is_word_byte es ≡ true
    → list_all is_word_byte ((ds ++ 46 ∷ []) ++ es) ≡ true
out-letters ds es h k =
    list_all-append is_word_byte (ds ++ 46 ∷ []) es
    ∙ and-both (list_all is_word_byte (ds ++ 46 ∷ [])) (list_all is_word_byte es)
    (list_all-append is_word_byte ds (46 ∷ []) ∙ and-both (list_all is_word_byte ds) true h refl) k

out-word : (j r : ℕ) → j < 2 ^ 64 → r < 2 ^ 64 → IsSourceWord (Out j r)
out-word j r small few =
    let rest : List ℕ = (decimal j ++ 46 ∷ []) ++ decimal r in
    record {
      some = omega arith;
      letters = and-both (is_word_byte 110) (list_all is_word_byte rest) refl
          (out-letters (decimal j) (decimal r) (decimal-word j small) (decimal-word r few));
      read = out-of j r small few;
      no_number = ap (λ b. where_true b (decimal_value (110 ∷ rest))) (not_numeral 110 rest refl);
    }

source-word : (s : Src) → is_small_source s ≡ true → IsSourceWord s
source-word (Input k) h =
    let most = le-from_test k 3 h in
    input-word k (omega (arith, most))
source-word (Out j r) h =
    let parts = and_parts (nat_le j 5) (nat_le r 2) h in
    let first = le-from_test j 5 parts.0 in
    let second = le-from_test r 2 parts.1 in
    out-word j r (omega (arith, first)) (omega (arith, second))

-- a source, which is no numeral
pub record SourceReads (s : Src) (tree : Tree) : Type 0 where
  pub read : source_in tree ≡ Some s
  pub no_number : number_in tree ≡ None

pub source-written : (deep : ℕ) (s : Src) → is_small_source s ≡ true → IsTextOf deep SourceReads source_text s
source-written deep s small place =
    let w = source-word s small in
    tree-known deep (IsWordOf (source_text s)) (SourceReads s) place (source_text s)
    (λ tree is. record {
      read = ap (option_and_then source_of) is ∙ w.read;
      no_number = ap (option_and_then number) is ∙ w.no_number;
    })
    (word deep place (source_text s) w.some w.letters)

pub sources-written : (deep : ℕ) (sources : List Src) → list_all is_small_source sources ≡ true
    → Each (IsTextOf deep SourceReads source_text) sources
sources-written deep [] h = tt
sources-written deep (s ∷ sources) h =
    let parts = and_parts (is_small_source s) (list_all is_small_source sources) h in
    (source-written deep s parts.0, sources-written deep sources parts.1)

abbrev arg_text : Src → List ℕ
arg_text s = codes " " ++ source_text s

args-written : (deep : ℕ) (args : List Src) → list_all is_small_source args ≡ true
    → Each (IsTextOf deep SourceReads arg_text) args
args-written deep [] h = tt
args-written deep (s ∷ args) h =
    let parts = and_parts (is_small_source s) (list_all is_small_source args) h in (
      λ place. space-before deep (SourceReads s) place (source_text s) (source-written deep s parts.0 (place + 1)),
      args-written deep args parts.1,
    )

-- ---- what a series of trees is read as

pub pairs-within : {A : Type 0} (R S : A → Tree → Type 0) → ((x : A) (tree : Tree) → R x tree → S x tree)
    → (xs : List A) (trees : List Tree) → Pairwise R xs trees → Pairwise S xs trees
pairs-within R S more [] [] h = tt
pairs-within R S more [] (t ∷ ts) h = absurd h
pairs-within R S more (x ∷ xs) [] h = absurd h
pairs-within R S more (x ∷ xs) (t ∷ ts) h = (more x t h.0, pairs-within R S more xs ts h.1)

pub each-read : {A : Type 0} (f : Tree → Option A) (xs : List A) (trees : List Tree)
    → Pairwise (λ x t. f t ≡ Some x) xs trees → each f trees ≡ Some xs
each-read f [] [] h = refl
each-read f [] (t ∷ ts) h = absurd h
each-read f (x ∷ xs) [] h = absurd h
each-read f (x ∷ xs) (t ∷ ts) h =
    let rest : each f ts ≡ Some xs = each-read f xs ts h.1 in
    λ i. option_and_then (λ y. option_and_then (λ ys. Some (y ∷ ys)) (rest i)) (h.0 i)

pub sources-read : (sources : List Src) (trees : List Tree) → Pairwise SourceReads sources trees
    → each source_in trees ≡ Some sources
sources-read sources trees h =
    each-read source_in sources trees
    (pairs-within SourceReads (λ s t. source_in t ≡ Some s) (λ s t r. r.read) sources trees h)

-- ---- nodes

no-attr-left : (args : List Src) (bs : List Tree) → Pairwise SourceReads args bs → attr_count bs ≡ 0
no-attr-left [] [] h = refl
no-attr-left [] (b ∷ bs) h = absurd h
no-attr-left (s ∷ args) [] h = absurd h
no-attr-left (s ∷ args) (b ∷ bs) h = ap (λ o. cond (is_some o) (1 + attr_count bs) 0) h.0.no_number

attrs-counted : (attrs : List ℕ) (args : List Src) (as' bs : List Tree) → Pairwise AttrReads attrs as'
    → Pairwise SourceReads args bs → attr_count (as' ++ bs) ≡ length as'
attrs-counted [] args [] bs h k = no-attr-left args bs k
attrs-counted [] args (t ∷ ts) bs h k = absurd h
attrs-counted (a ∷ attrs) args [] bs h k = absurd h
attrs-counted (a ∷ attrs) args (t ∷ ts) bs h k =
    let one : 1 + length ts ≡ length (t ∷ ts) = omega arith in
    ap (λ o. cond (is_some o) (1 + attr_count (ts ++ bs)) 0) h.0
    ∙ ap (λ n. 1 + n) (attrs-counted attrs args ts bs h.1 k) ∙ one

three-some : {A B C D : Type 0} (make : B → C → D) (o : Option A) (p : Option B) (q : Option C) (a : A) (b : B) (c : C)
    → o ≡ Some a → p ≡ Some b → q ≡ Some c
    → option_and_then (λ a. option_and_then (λ b. option_and_then (λ c. Some (make b c)) q) p) o ≡ Some (make b c)
three-some make o p q a b c h k l =
    λ i. option_and_then (λ a. option_and_then (λ b. option_and_then (λ c. Some (make b c)) (l i)) (k i)) (h i)

pub record NodeReads (f : File) (n : Node) (tree : Tree) : Type 0 where
  pub form : NodeForm
  pub formed : node_in tree ≡ Some form
  pub read : node_read f form ≡ Ok n

-- the members of a node's list
abbrev NodeMembers : File → Node → List Tree → Type 0
NodeMembers f n = Headed (OpReads f n.op) (Parted (Pairwise AttrReads n.attrs) (Pairwise SourceReads n.args))

abbrev form_of : Node → Tree → NodeForm
form_of n op = record { op = op; attrs = n.attrs; args = n.args }

word-given : (o : Option (List ℕ)) (tree : Tree) → option_map (λ w. tree) o ≡ Some tree
    → (w : List ℕ) × (o ≡ Some w)
word-given None tree h = absurd (cc)
word-given (Some w) tree h = (w, refl)

node-of : (f : File) (n : Node) (op : Tree) (as' bs : List Tree) → OpReads f n.op op → Pairwise AttrReads n.attrs as'
    → Pairwise SourceReads n.args bs → node_of op (as' ++ bs) ≡ Some (form_of n op)
node-of f n op as' bs o h k =
    let w = word-given (word_of op) op o.is_word in
    let count : attr_count (as' ++ bs) ≡ length as' = attrs-counted n.attrs n.args as' bs h k in
    three-some (λ attrs args. record { op = op; attrs = attrs; args = args }) (word_of op)
    (each number_in (take (attr_count (as' ++ bs)) (as' ++ bs)))
    (each source_in (drop (attr_count (as' ++ bs)) (as' ++ bs))) w.0 n.attrs n.args w.1
    (ap (λ m. each number_in (take m (as' ++ bs))) count ∙ ap (each number_in) (take-append_seam as' bs)
    ∙ each-read number_in n.attrs as' h)
    (ap (λ m. each source_in (drop m (as' ++ bs))) count ∙ ap (each source_in) (drop-append_seam as' bs)
    ∙ sources-read n.args bs k)

node-from : (f : File) (n : Node) (members : List Tree) → NodeMembers f n members
    → (op : Tree) × OpReads f n.op op × (node_from members ≡ Some (form_of n op))
node-from f n [] h = absurd h
node-from f n (op ∷ rest) h =
    let p = h.1 in
    (op, h.0, ap (node_of op) p.2 ∙ node-of f n op p.0 p.1 h.0 p.3 p.4)

node-reads : (f : File) (n : Node) (tree : Tree) → IsListOf (NodeMembers f n) tree → NodeReads f n tree
node-reads f n tree h =
    let from = node-from f n h.0 h.2 in
    record {
      form = form_of n from.0;
      formed = ap (option_and_then node_from) h.1 ∙ from.2;
      read = ap (λ r. and_then r (λ op. Ok (record { op = op; attrs = n.attrs; args = n.args }))) from.1.read;
    }

-- a node of an operation of the file, with small numbers
pub record IsNodeOf (f : File) (n : Node) : Type 0 where
  pub operation : Operation
  pub in_file : slice_get f.ops n.op ≡ Some operation
  pub small : is_small_node n ≡ true

pub both-end : (bs cs : List ℕ) → EndsWords bs → EndsWords cs → EndsWords (bs ++ cs)
both-end bs cs h k rest e = subst Ends (sym (append_assoc bs cs rest)) (h (cs ++ rest) (k rest e))

pub node-written : (f : File) → OpsAreNamed f → (n : Node) → IsNodeOf f n
    → IsTextOf 1 (NodeReads f) (node_text f) n
node-written f named n is place =
    let op : List ℕ = op_name (slice_get f.ops n.op) in
    let attrs : List ℕ = flat_map attr_text n.attrs in
    let args : List ℕ = flat_map arg_text n.args in
    let small = and_parts (list_all (λ a. nat_le a (2 ^ 64 - 1)) n.attrs) (list_all is_small_source n.args) is.small in
    let attrs-end : EndsWords attrs = series-ends attr_text (λ a rest. refl) n.attrs in
    let args-end : EndsWords args = series-ends arg_text (λ s rest. refl) n.args in
    let rest =
    both-series 0 (Pairwise AttrReads n.attrs) (Pairwise SourceReads n.args) (place + 1 + length op) attrs args
    (series 0 AttrReads attr_text (λ a rest. refl) n.attrs (attrs-written 0 n.attrs small.0) (place + 1 + length op))
    (series 0 SourceReads arg_text (λ s rest. refl) n.args (args-written 0 n.args small.1)
    (place + 1 + length op + length attrs)) args-end in
    let members =
    more-trees 0 (OpReads f n.op) (Parted (Pairwise AttrReads n.attrs) (Pairwise SourceReads n.args)) (place + 1) op
    (attrs ++ args) (op-written f named 0 n.op is.operation is.in_file (place + 1)) rest
    (both-end attrs args attrs-end args-end) in
    tree-same 1 (NodeReads f n) place (codes "(" ++ (op ++ (attrs ++ args)) ++ codes ")") (node_text f n)
    (ap (λ bs. codes "(" ++ bs ++ codes ")") (sym (append_assoc op attrs args)))
    (tree-known 1 (IsListOf (NodeMembers f n)) (NodeReads f n) place (codes "(" ++ (op ++ (attrs ++ args)) ++ codes ")")
    (node-reads f n) (in-list 0 (NodeMembers f n) place (op ++ (attrs ++ args)) members))

pub nodes-written : (f : File) → OpsAreNamed f → (nodes : List Node) → Each (IsNodeOf f) nodes
    → Each (IsTextOf 1 (NodeReads f) (node_text f)) nodes
nodes-written f named [] h = tt
nodes-written f named (n ∷ nodes) h = (node-written f named n h.0, nodes-written f named nodes h.1)

-- what the nodes' trees are read as
pub record NodesRead (f : File) (nodes : List Node) (trees : List Tree) : Type 0 where
  pub forms : List NodeForm
  pub formed : each node_in trees ≡ Some forms
  pub read : nodes_read f forms ≡ Ok nodes

pub nodes-read : (f : File) (nodes : List Node) (trees : List Tree) → Pairwise (NodeReads f) nodes trees
    → NodesRead f nodes trees
nodes-read f [] [] h = record { forms = []; formed = refl; read = refl }
nodes-read f [] (t ∷ ts) h = absurd h
nodes-read f (n ∷ nodes) [] h = absurd h
nodes-read f (n ∷ nodes) (t ∷ ts) h =
    let rest = nodes-read f nodes ts h.1 in
    record {
      forms = h.0.form ∷ rest.forms;
      formed = λ i. option_and_then (λ y. option_and_then (λ ys. Some (y ∷ ys)) (rest.formed i)) (h.0.formed i);
      read = λ i. and_then (h.0.read i) (λ m. and_then (rest.read i) (λ ms. Ok (m ∷ ms)));
    }
