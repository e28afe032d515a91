-- The pattern of a rule, read at once where its numbers are small, or by its form and tested after.
use Rattle.std.proofs.Common.{◌≡◌, ◌∙◌, ℕ, ◌-◌, ◌^◌, List, [], ◌∷◌, Option, Some, None, Bool, true, false, ◌&&◌}
use Rattle.std.proofs.Common.{refl, ap}
use Rattle.std.proofs.Common.{sym, map, take, drop, Result, Ok, Err, subst}
use Rattle.std.specs.Prelude.{option_and_then, nat_le}
use Rattle.std.specs.List.{list_all}
use Rattle.std.specs.Option.{is_some, option_or}
use Rattle.std.proofs.lemmas.Bool.{false≢true}
use Rattle.std.proofs.lemmas.Option.{same_Some}
use Rattle.list_lemmas.proofs.Options.{bind_some}
use Rattle.sexp_read.specs.Tree.{Tree, Word, Branch, word_of, list_of}
use Rattle.isel_spec.specs.File.{File, Operation}
use Rattle.pattern_core.specs.declared.pattern.Src.{Src}
use Rattle.pattern_core.specs.declared.pattern.Node.{Node}
use Rattle.pattern_core.specs.declared.pattern.Pattern.{Pattern}
use Rattle.pattern_text.specs.declared.fault.LibFault.{LibFault}
use Rattle.pattern_text.specs.Form.{where_true, each, NodeForm, RuleForm, number_in, source_in, attr_count, node_of}
use Rattle.pattern_text.specs.Form.{node_from, node_in}
use Rattle.pattern_text.specs.Rules.{op_read, node_read, nodes_read, pattern_read, place_of, is_small_source}
use Rattle.pattern_text.specs.Rules.{is_small_node}
use Rattle.pattern_text.specs.Rules.{is_small}
use Rattle.pattern_text.specs.Small.{small_attr_in, small_source_in, small_node_of, small_node_in, small_pattern}
use Rattle.pattern_text.specs.Small.{fault_of}
use Rattle.pattern_text.specs.Small.{first_fault, node_fault, nodes_fault, AreParts, small_attr, small_source}
use Rattle.pattern_text.specs.Small.{small_node_from}
use Rattle.pattern_text.specs.Steps.{span_of, fault_at, and_then, or_fault}
use Rattle.pattern_text.specs.Outcomes.{IsPatternRead}
use Rattle.pattern_text.specs.declared.fault.LibKind.TheVariants as fault

none-some : {A : Type 0} {x : A} → None ≡ Some x → ⊥
none-some e = false≢true (ap is_some e)

-- one more that passes a test, before others that pass it
put-test : {A : Type 0} (a b : Bool) (x : A) (xs : List A)
    → option_and_then (λ y. option_and_then (λ ys. Some (y ∷ ys)) (where_true b xs)) (where_true a x)
    ≡ where_true (a && b) (x ∷ xs)
put-test true true x xs = refl
put-test true false x xs = refl
put-test false b x xs = refl

abbrev put : {A : Type 0} → Option (List A) → Option A → Option (List A)
put o p = option_and_then (λ y. option_and_then (λ ys. Some (y ∷ ys)) o) p

-- what a list of things gives is its first and what the others give
pub record IsPut {A B : Type 0} (f : A → Option B) (x : A) (xs : List A) (ys : List B) : Type 0 where
  pub first : B
  pub others : List B
  pub gives : f x ≡ Some first
  pub rest : each f xs ≡ Some others
  pub whole : ys ≡ first ∷ others

put-parts : {A B : Type 0} (f : A → Option B) (x : A) (xs : List A) (ys : List B) (o : Option B) (p : Option (List B))
    → f x ≡ o → each f xs ≡ p → put p o ≡ Some ys → IsPut f x xs ys
put-parts f x xs ys None p e h w = absurd (cc)
put-parts f x xs ys (Some y) None e h w = absurd (cc)
put-parts f x xs ys (Some y) (Some zs) e h w =
    record { first = y; others = zs; gives = e; rest = h; whole = sym (same_Some (y ∷ zs) ys w) }

pub each-parts : {A B : Type 0} (f : A → Option B) (x : A) (xs : List A) (ys : List B) → each f (x ∷ xs) ≡ Some ys
    → IsPut f x xs ys
each-parts f x xs ys w = put-parts f x xs ys (f x) (each f xs) refl refl w

-- each read and tested at once, where each is read
pub each-tested : {A B : Type 0} (f g : A → Option B) (test : B → Bool)
    → ((x : A) (y : B) → f x ≡ Some y → g x ≡ where_true (test y) y)
    → (xs : List A) (ys : List B) → each f xs ≡ Some ys → each g xs ≡ where_true (list_all test ys) ys
each-tested f g test h [] ys e = ap (λ zs. where_true (list_all test zs) zs) (same_Some [] ys e)
each-tested f g test h (x ∷ xs) ys e =
    let p = each-parts f x xs ys e in
    let rest = each-tested f g test h xs p.others p.rest in
    (λ i. put (rest i) (h x p.first p.gives i))
    ∙ put-test (test p.first) (list_all test p.others) p.first p.others
    ∙ ap (λ zs. where_true (list_all test zs) zs) (sym p.whole)

-- ---- nodes

abbrev form_of : Tree → List ℕ → List Src → NodeForm
form_of op attrs args = record { op = op; attrs = attrs; args = args }

abbrev node_by : ℕ → List ℕ → List Src → Node
node_by op attrs args = record { op = op; attrs = attrs; args = args }

abbrev tests : List ℕ → List Src → Bool
tests attrs args = list_all (λ a. nat_le a (2 ^ 64 - 1)) attrs && list_all is_small_source args

both-tests : (a b : Bool) (k : ℕ) (attrs : List ℕ) (args : List Src)
    → option_and_then (λ xs. option_and_then (λ ys. Some (node_by k xs ys)) (where_true b args)) (where_true a attrs)
    ≡ where_true (a && b) (node_by k attrs args)
both-tests true true k attrs args = refl
both-tests true false k attrs args = refl
both-tests false b k attrs args = refl

attrs-tested : (ts : List Tree) (attrs : List ℕ) → each number_in ts ≡ Some attrs
    → each small_attr_in ts ≡ where_true (list_all (λ a. nat_le a (2 ^ 64 - 1)) attrs) attrs
attrs-tested ts attrs e =
    each-tested number_in small_attr_in (λ a. nat_le a (2 ^ 64 - 1))
    (λ t a h. ap (option_and_then small_attr) h) ts attrs e

pub args-tested : (ts : List Tree) (args : List Src) → each source_in ts ≡ Some args
    → each small_source_in ts ≡ where_true (list_all is_small_source args) args
args-tested ts args e =
    each-tested source_in small_source_in is_small_source (λ t s h. ap (option_and_then small_source) h) ts args e

-- a node that is read, and the same where its numbers are small
pub record IsRead (f : File) (n : NodeForm) (small : Option Node) : Type 0 where
  pub node : Node
  pub read : node_read f n ≡ Ok node
  pub tested : small ≡ where_true (is_small_node node) node

node-parts : (f : File) (op : Tree) (rest : List Tree) (attrs : List ℕ) (args : List Src) (o : Option ℕ)
    → place_of (map (λ (x : Operation). x.name) f.ops) op ≡ o
    → each number_in (take (attr_count rest) rest) ≡ Some attrs
    → each source_in (drop (attr_count rest) rest) ≡ Some args → first_fault f (op ∷ rest) ≡ None
    → IsRead f (form_of op attrs args) (small_node_of f op rest)
node-parts f op rest attrs args None e h k n =
    absurd (none-some (sym n ∙ ap (λ o. fault_of (or_fault fault.Unknown (span_of op) o)) e))
node-parts f op rest attrs args (Some place) e h k n = record {
  node = node_by place attrs args;
  read = ap (λ o. and_then (or_fault fault.Unknown (span_of op) o) (λ at. Ok (node_by at attrs args))) e;
  tested =
      (λ i. option_and_then (λ at. option_and_then (λ xs. option_and_then (λ ys. Some (node_by at xs ys))
      (args-tested (drop (attr_count rest) rest) args k i)) (attrs-tested (take (attr_count rest) rest) attrs h i))
      (e i))
      ∙ both-tests (list_all (λ a. nat_le a (2 ^ 64 - 1)) attrs) (list_all is_small_source args) place attrs args;
}

-- what the form of a node says of its members
pub record IsFormed (op : Tree) (rest : List Tree) (n : NodeForm) : Type 0 where
  pub attrs : List ℕ
  pub args : List Src
  pub attrs_read : each number_in (take (attr_count rest) rest) ≡ Some attrs
  pub args_read : each source_in (drop (attr_count rest) rest) ≡ Some args
  pub whole : form_of op attrs args ≡ n

formed : (op : Tree) (rest : List Tree) (n : NodeForm) → node_of op rest ≡ Some n → IsFormed op rest n
formed op rest n e =
    let word = bind_some (word_of op) _ n e in
    let attrs = bind_some (each number_in (take (attr_count rest) rest)) _ n word.2 in
    let args = bind_some (each source_in (drop (attr_count rest) rest)) _ n attrs.2 in
    record {
      attrs = attrs.0;
      args = args.0;
      attrs_read = attrs.1;
      args_read = args.1;
      whole = same_Some (form_of op attrs.0 args.0) n args.2;
    }

from-ok : (f : File) (ts : List Tree) (n : NodeForm) → node_from ts ≡ Some n → first_fault f ts ≡ None
    → IsRead f n (small_node_from f ts)
from-ok f [] n e h = absurd (none-some e)
from-ok f (op ∷ rest) n e h =
    let p = formed op rest n e in
    subst (λ m. IsRead f m (small_node_of f op rest)) p.whole
    (node-parts f op rest p.attrs p.args (place_of (map (λ (x : Operation). x.name) f.ops) op) refl p.attrs_read
    p.args_read h)

node-ok : (f : File) (t : Tree) (n : NodeForm) → node_in t ≡ Some n → node_fault f t ≡ None
    → IsRead f n (small_node_in f t)
node-ok f (Word first bytes) n e h = absurd (none-some e)
node-ok f (Branch from to members) n e h = from-ok f (list_of members) n e h

op-err : {A B : Type 0} (r : Result A LibFault) (next : A → Result B LibFault) (x : LibFault) → fault_of r ≡ Some x
    → and_then r next ≡ Err x
op-err (Ok a) next x e = absurd (none-some e)
op-err (Err y) next x e = ap Err (same_Some y x e)

from-err : (f : File) (ts : List Tree) (n : NodeForm) (x : LibFault) → node_from ts ≡ Some n
    → first_fault f ts ≡ Some x → node_read f n ≡ Err x
from-err f [] n x e h = absurd (none-some e)
from-err f (op ∷ rest) n x e h =
    let p = formed op rest n e in
    subst (λ m. node_read f m ≡ Err x) p.whole (op-err (op_read f op) _ x h)

node-err : (f : File) (t : Tree) (n : NodeForm) (x : LibFault) → node_in t ≡ Some n → node_fault f t ≡ Some x
    → node_read f n ≡ Err x
node-err f (Word first bytes) n x e h = absurd (none-some e)
node-err f (Branch from to members) n x e h = from-err f (list_of members) n x e h

-- ---- all nodes of a rule

pub record AreRead (f : File) (ns : List NodeForm) (small : Option (List Node)) : Type 0 where
  pub nodes : List Node
  pub read : nodes_read f ns ≡ Ok nodes
  pub tested : small ≡ where_true (list_all is_small_node nodes) nodes

or-left : {A : Type 0} (o p : Option A) → option_or o p ≡ None → o ≡ None
or-left None p e = refl
or-left (Some x) p e = e

or-right : {A : Type 0} (o p : Option A) → option_or o p ≡ None → p ≡ None
or-right None p e = e
or-right (Some x) p e = absurd (none-some (sym e))

more-read : (f : File) (n : NodeForm) (ns : List NodeForm) (first : Option Node) (small : Option (List Node))
    → IsRead f n first → AreRead f ns small → AreRead f (n ∷ ns) (put small first)
more-read f n ns first small r s = record {
  nodes = r.node ∷ s.nodes;
  read = λ i. and_then (r.read i) (λ m. and_then (s.read i) (λ ms. Ok (m ∷ ms)));
  tested = (λ i. put (s.tested i) (r.tested i))
      ∙ put-test (is_small_node r.node) (list_all is_small_node s.nodes) r.node s.nodes;
}

pub nodes-ok : (f : File) (ts : List Tree) (ns : List NodeForm) → each node_in ts ≡ Some ns
    → nodes_fault f ts ≡ None → AreRead f ns (each (small_node_in f) ts)
nodes-ok f [] ns e h =
    subst (λ ms. AreRead f ms (Some [])) (same_Some [] ns e) (record { nodes = []; read = refl; tested = refl })
nodes-ok f (t ∷ ts) ns e h =
    let p = each-parts node_in t ts ns e in
    subst (λ ms. AreRead f ms (each (small_node_in f) (t ∷ ts))) (sym p.whole)
    (more-read f p.first p.others (small_node_in f t) (each (small_node_in f) ts)
    (node-ok f t p.first p.gives (or-left (node_fault f t) (nodes_fault f ts) h))
    (nodes-ok f ts p.others p.rest (or-right (node_fault f t) (nodes_fault f ts) h)))

first-err : (f : File) (n : NodeForm) (ns : List NodeForm) (x : LibFault) → node_read f n ≡ Err x
    → nodes_read f (n ∷ ns) ≡ Err x
first-err f n ns x e = ap (λ r. and_then r (λ m. and_then (nodes_read f ns) (λ ms. Ok (m ∷ ms)))) e

later-err : (f : File) (n : NodeForm) (ns : List NodeForm) (m : Node) (x : LibFault) → node_read f n ≡ Ok m
    → nodes_read f ns ≡ Err x → nodes_read f (n ∷ ns) ≡ Err x
later-err f n ns m x e h = λ i. and_then (e i) (λ m. and_then (h i) (λ ms. Ok (m ∷ ms)))

pub nodes-err : (f : File) (ts : List Tree) (ns : List NodeForm) (x : LibFault) → each node_in ts ≡ Some ns
    → nodes_fault f ts ≡ Some x → nodes_read f ns ≡ Err x
nodes-err f [] ns x e h = absurd (none-some h)
nodes-err f (t ∷ ts) ns x e h =
    let p = each-parts node_in t ts ns e in
    subst (λ ms. nodes_read f ms ≡ Err x) (sym p.whole)
    (by p (node_fault f t) refl (λ k. nodes-err f ts p.others x p.rest k))
  where
    by : (p : IsPut node_in t ts ns) (o : Option LibFault) → node_fault f t ≡ o
        → (nodes_fault f ts ≡ Some x → nodes_read f p.others ≡ Err x) → nodes_read f (p.first ∷ p.others) ≡ Err x
    by p None k rest =
        let r = node-ok f t p.first p.gives k in
        later-err f p.first p.others r.node x r.read
        (rest (sym (ap (λ o. option_or o (nodes_fault f ts)) k) ∙ h))
    by p (Some y) k rest =
        first-err f p.first p.others x
        (node-err f t p.first x p.gives (k ∙ sym (ap (λ o. option_or o (nodes_fault f ts)) k) ∙ h))

-- ---- a rule

the_formed : {A : Type 0} (o : Option A) → is_some o ≡ true → (x : A) × (o ≡ Some x)
the_formed None e = absurd (false≢true e)
the_formed (Some x) e = (x, refl)

abbrev pattern_by : List Node → List Src → Pattern
pattern_by ns ss = record { nodes = ns; results = ss }

abbrev rule_made : List NodeForm → List Src → RuleForm
rule_made ns ss = record { nodes = ns; results = ss }

read-small : (read : Result Pattern LibFault) (p : Pattern) (b : Bool) → read ≡ Ok p → is_small p ≡ b
    → IsPatternRead read (Ok (where_true b p))
read-small read p true e h = (e, h)
read-small read p false e h = (p, e, h)

both-read : (a b : Bool) (ns : List Node) (ss : List Src)
    → option_and_then (λ ms. option_and_then (λ rs. Some (pattern_by ms rs)) (where_true b ss)) (where_true a ns)
    ≡ where_true (a && b) (pattern_by ns ss)
both-read true true ns ss = refl
both-read true false ns ss = refl
both-read false b ns ss = refl

abbrev read_by : File → Tree → Option RuleForm → Result Pattern LibFault
read_by f t form = and_then (or_fault fault.Shape (span_of t) form) (pattern_read f)

by-parts : (form : Option RuleForm) (nodes results : List Tree) (ns : List NodeForm) (ss : List Src)
    → AreParts form nodes results → each node_in nodes ≡ Some ns → each source_in results ≡ Some ss
    → form ≡ Some (record { nodes = ns; results = ss })
by-parts form nodes results ns ss parts e h =
    parts.same
    ∙ (λ i. option_and_then (λ xs. option_and_then (λ ys. Some (rule_made xs ys)) (h i)) (e i))

pub rule-ok : (f : File) (t : Tree) (form : Option RuleForm) (nodes results : List Tree) → AreParts form nodes results
    → nodes_fault f nodes ≡ None → (found : Option Pattern) → found ≡ small_pattern f nodes results
    → IsPatternRead (read_by f t form) (Ok found)
rule-ok f t form nodes results parts n found is =
    let ns = the_formed (each node_in nodes) parts.nodes_formed in
    let ss = the_formed (each source_in results) parts.results_formed in
    let r = nodes-ok f nodes ns.0 ns.1 n in
    let read : read_by f t form ≡ Ok (pattern_by r.nodes ss.0) =
    ap (read_by f t) (by-parts form nodes results ns.0 ss.0 parts ns.1 ss.1)
    ∙ ap (λ o. and_then o (λ ms. Ok (pattern_by ms ss.0))) r.read in
    let small : small_pattern f nodes results
    ≡ where_true (is_small (pattern_by r.nodes ss.0)) (pattern_by r.nodes ss.0) =
    (λ i. option_and_then (λ ms. option_and_then (λ rs. Some (pattern_by ms rs)) (args-tested results ss.0 ss.1 i))
    (r.tested i))
    ∙ both-read (list_all is_small_node r.nodes) (list_all is_small_source ss.0) r.nodes ss.0 in
    subst (λ o. IsPatternRead (read_by f t form) (Ok o)) (sym (is ∙ small))
    (read-small (read_by f t form) (pattern_by r.nodes ss.0) (is_small (pattern_by r.nodes ss.0)) read refl)

pub rule-err : (f : File) (t : Tree) (form : Option RuleForm) (nodes results : List Tree) (x : LibFault)
    → AreParts form nodes results → nodes_fault f nodes ≡ Some x → read_by f t form ≡ Err x
rule-err f t form nodes results x parts n =
    let ns = the_formed (each node_in nodes) parts.nodes_formed in
    let ss = the_formed (each source_in results) parts.results_formed in
    ap (read_by f t) (by-parts form nodes results ns.0 ss.0 parts ns.1 ss.1)
    ∙ ap (λ o. and_then o (λ ms. Ok (pattern_by ms ss.0))) (nodes-err f nodes ns.0 x ns.1 n)

pub rule-shape : (f : File) (t : Tree) (form : Option RuleForm) → form ≡ None
    → read_by f t form ≡ Err (fault_at fault.Shape (span_of t))
rule-shape f t form e = ap (read_by f t) e
