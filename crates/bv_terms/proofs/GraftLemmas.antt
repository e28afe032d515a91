-- Images beside nodes: how one is found, and what one more is.
use Rattle.std.proofs.Common.{◌≡◌, ℕ, zero, suc, ◌<◌, ◌≤◌, List, [], ◌∷◌, ◌++◌, length, map, take, get_or}
use Rattle.std.proofs.Common.{slice_index_or, slice_get, unwrap_or, option_map, Option, None, Some, Result, Ok, Err}
use Rattle.std.proofs.Common.{All, Contains, cond, ⊎_elim, refl, sym, ap, ◌∙◌, subst, arith}
use Rattle.std.proofs.Common.{length-append, append_assoc, IfOk}
use Rattle.std.specs.Result.{IsOk}
use Rattle.std.specs.declared.alloc.AllocError.{AllocError}
use Rattle.std.specs.List.{AllByRecursion, HoldsAt}
use Rattle.std.specs.List.Sorted.{IsBinarySearchResult}
use Rattle.std.specs.Ordering.{nat_cmp}
use Rattle.std.specs.declared.cmp.Ordering.TheVariants.{Equal}
use Rattle.std.proofs.lemmas.Bool.{cases_lt, eq-eqb, ne_eqb}
use Rattle.std.proofs.lemmas.List.{length-map}
use Rattle.std.proofs.lemmas.List.Elements.{recursion_from_All, All-from_recursion, All-weaker, All-push}
use Rattle.std.proofs.lemmas.Result.{IfOk-weaker}
use Rattle.std.proofs.lemmas.Option.{none-some, same_Some, slice_get-map, slice_get-get_or, slice_get_within}
use Rattle.std.proofs.lemmas.Option.{get_or_from_slice_get}
use Rattle.bv_terms.specs.declared.op.TermId.{TermId}
use Rattle.bv_terms.specs.declared.op.Op.{Op}
use Rattle.bv_terms.specs.declared.op.Op.TheVariants as op
use Rattle.bv_terms.specs.declared.op.MakeFault.{MakeFault}
use Rattle.bv_terms.specs.declared.value.Sort.{Sort}
use Rattle.bv_terms.specs.declared.value.Value.{Value}
use Rattle.bv_terms.specs.Term.{Term, Operands, Apply, Then, value}
use Rattle.bv_terms.specs.WellSorted.{sort_of, InputsFit}
use Rattle.bv_terms.specs.Table.{Entry, Table, term_in, operands, terms_from, terms_of, term_at, make_refusal, IsTable}
use Rattle.bv_terms.specs.Table.{Extends}
use Rattle.bv_terms.specs.Subterm.{IsSubterm, AreSubterms, IsTopological}
use Rattle.bv_terms.specs.Memory.{Thing, thing}
use Rattle.bv_terms.specs.Replaced.{op_replaced, replaced, all_replaced, ReplacementsFit}
use Rattle.bv_terms.specs.Graft.{AreRising, image_in, AreImages, AreGraftable, IsReady}
use Rattle.bv_terms.proofs.SignatureLemmas.{arity-at_most}
use Rattle.bv_terms.proofs.TableLemmas.{term_at-node, terms_from-append, slice_get-terms_from, length-terms_of}
use Rattle.bv_terms.proofs.MakeLemmas.{node-sorted, arity-of_args, sort_of-refused}
use Rattle.bv_terms.proofs.ReplacedLemmas.{sort_of-replaced, value-replaced, thing-replaced, InputsFit-replaced}
use Rattle.bv_terms.proofs.ReplacedLemmas.{ReplacementsFit-subterm}
use Rattle.list_lemmas.proofs.Lists.{append-nothing, map-push}
use Rattle.list_lemmas.proofs.Lookups.{Contains-slice_get, only_one, same-element, all-map}
use Rattle.list_lemmas.proofs.Orders.{nat_cmp-is_less, nat_cmp-is_equal, nat_cmp-is_greater, nat_cmp-rises}
use Rattle.list_lemmas.proofs.Options.{option_map-some}

-- ---- the image beside a node

not_above : (nodes : List TermId) → AreRising nodes → (i j : ℕ) (d : TermId) → i ≤ j → j < length nodes
    → (get_or nodes i d).0 ≤ (get_or nodes j d).0
not_above nodes rising i j d le within =
    ⊎_elim (λ less. let up = rising i j d less within in omega arith)
    (λ more. let same : i ≡ j = omega arith in omega (arith, ap (λ k. (get_or nodes k d).0) same)) (cases_lt i j)

-- a node that stands there is found
pub search-finds : (nodes : List TermId) (at : TermId) (r : Result ℕ ℕ) → AreRising nodes → Contains nodes at
    → IsBinarySearchResult (λ (y : TermId). nat_cmp y.0 at.0) nodes r → IsOk r
search-finds nodes at (Ok k) rising c h = refl
search-finds nodes at (Err i) rising c h =
    let parted = h (λ a b d le lt. nat_cmp-rises (get_or nodes a d).0 (get_or nodes b d).0 at.0
    (not_above nodes rising a b d le lt)) in
    let here : (get_or nodes c.0 at).0 ≡ at.0 = ap (λ (n : TermId). n.0) c.2 in
    let found = (get_or nodes c.0 at).0 in
    ⊎_elim
    (λ less. let below : found < at.0 = nat_cmp-is_less found at.0 (parted.0 c.0 at (omega arith) less) in
    absurd (omega (arith, here, below)))
    (λ more. let above : at.0 < found = nat_cmp-is_greater found at.0 (parted.1 c.0 at more c.1) in
    absurd (omega (arith, here, above))) (cases_lt c.0 i)

pub image_in-at : (nodes images : List TermId) → AreRising nodes → (k : ℕ) (a b : TermId) → slice_get nodes k ≡ Some a
    → slice_get images k ≡ Some b → image_in nodes images a ≡ b
image_in-at [] images rising k a b e f = cc
image_in-at (n ∷ nodes) [] rising k a b e f = cc
image_in-at (n ∷ nodes) (i ∷ images) rising zero a b e f =
    let same = same_Some n a e in
    ap (λ t. cond t i (image_in nodes images a)) (eq-eqb n.0 a.0 (ap (λ (m : TermId). m.0) same)) ∙ same_Some i b f
image_in-at (n ∷ nodes) (i ∷ images) rising (suc k) a b e f =
    let within : k < length nodes = slice_get_within nodes k a e in
    let up = rising zero (suc k) a (omega arith) (omega arith) in
    let at = ap (λ (m : TermId). m.0) (get_or_from_slice_get nodes k a a e) in
    ap (λ t. cond t i (image_in nodes images a)) (ne_eqb n.0 a.0 (λ same. omega (arith, up, at, same)))
    ∙ image_in-at nodes images (λ x y d lt l. rising (suc x) (suc y) d (omega arith) (omega arith)) k a b e f

-- what was found is the image
pub found-image : (nodes images : List TermId) (at : TermId) (k : ℕ) (d : TermId) → AreRising nodes
    → length images ≡ length nodes → k < length nodes → HoldsAt (λ (y : TermId). nat_cmp y.0 at.0 ≡ Equal) nodes k
    → slice_index_or images k d ≡ image_in nodes images at
found-image nodes images at k d rising beside within h =
    let number = nat_cmp-is_equal (get_or nodes k d).0 at.0 (h d) in
    let here = ap (λ (m : ℕ). let id : TermId = record { 0 = m } in id) number in
    sym (image_in-at nodes images rising k at (get_or images k d) (slice_get-get_or nodes k d within ∙ ap Some here)
    (slice_get-get_or images k d (omega (arith, beside, within))))

-- ---- terms of images

pub AreImages-beside : (table from : Table) (ts : List Term) (nodes images : List TermId)
    → AreImages table from ts nodes images → length images ≡ length nodes
AreImages-beside table from ts nodes images are =
    sym (length-map images (term_at table)) ∙ ap length are.terms
    ∙ length-map nodes (λ (a : TermId). replaced ts (term_at from a))

-- the image beside a node is a node of the table, for the term with its inputs replaced
pub image-at : (table from : Table) (ts : List Term) (nodes images : List TermId) → AreRising nodes
    → AreImages table from ts nodes images → (a : TermId) → Contains nodes a
    → ((image_in nodes images a).0 < length table.nodes)
    × (term_at table (image_in nodes images a) ≡ replaced ts (term_at from a))
image-at table from ts nodes images rising are a c =
    let at = Contains-slice_get nodes a c in
    let within : at.0 < length images =
    omega (arith, slice_get_within nodes at.0 a at.1, AreImages-beside table from ts nodes images are) in
    let image = get_or images at.0 a in
    let e = slice_get-get_or images at.0 a within in
    let is = image_in-at nodes images rising at.0 a image at.1 e in
    let f = λ (a : TermId). replaced ts (term_at from a) in
    let term = same_Some (term_at table image) (f a)
    (sym (slice_get-map (term_at table) images at.0 ∙ ap (option_map (term_at table)) e)
    ∙ ap (λ (us : List Term). slice_get us at.0) are.terms ∙ slice_get-map f nodes at.0 ∙ ap (option_map f) at.1) in
    (subst (λ (i : TermId). i.0 < length table.nodes) (sym is) (are.within at.0 a within), ap (term_at table) is ∙ term)

images-operands : (table from : Table) (ts : List Term) (nodes images : List TermId) → AreRising nodes
    → AreImages table from ts nodes images → (args : List TermId) → AllByRecursion (Contains nodes) args
    → operands (terms_of table) (map (image_in nodes images) args) ≡ all_replaced ts (operands (terms_of from) args)
unfolding replaced
images-operands table from ts nodes images rising are [] c = refl
images-operands table from ts nodes images rising are (a ∷ args) c =
    ap (λ t. Then t (operands (terms_of table) (map (image_in nodes images) args)))
    (image-at table from ts nodes images rising are a c.0).1
    ∙ ap (Then (replaced ts (term_at from a))) (images-operands table from ts nodes images rising are args c.1)

images-below : (table from : Table) (ts : List Term) (nodes images : List TermId) → AreRising nodes
    → AreImages table from ts nodes images → (args : List TermId) → AllByRecursion (Contains nodes) args
    → AllByRecursion (λ (a : TermId). a.0 < length table.nodes) (map (image_in nodes images) args)
images-below table from ts nodes images rising are [] c = tt
images-below table from ts nodes images rising are (a ∷ args) c = (
  (image-at table from ts nodes images rising are a c.0).0,
  images-below table from ts nodes images rising are args c.1,
)

-- ---- the image of one more node

abbrev terms_at : Table → List TermId → List Term
terms_at table inputs = map (term_at table) inputs

-- an input's image is the node that stands in its place
pub input-image : (table from : Table) (inputs nodes : List TermId) (at : TermId) → AreGraftable table from inputs
    → IsReady table from inputs nodes at → (k : ℕ) (s : Sort) (args : List TermId)
    → slice_get from.nodes at.0 ≡ Some (record { op = op.Input k s; args = args })
    → (id : TermId) × (slice_get inputs k ≡ Some id)
    × (term_at table id ≡ replaced (terms_at table inputs) (term_at from at))
unfolding replaced ReplacementsFit
input-image table from inputs nodes at may ready k s args h =
    let ts = terms_at table inputs in
    let us = operands (terms_of from) args in
    let node = term_at-node from may.is_other at (record { op = op.Input k s; args = args }) h in
    let fit = (subst (ReplacementsFit table.pointer ts) node ready.fit).0 in
    let id = option_map-some (term_at table) (slice_get inputs k) fit.0
    (sym (slice_get-map (term_at table) inputs k) ∙ fit.1)
    in (
      id.0,
      id.1,
      id.2 ∙ sym (ap (replaced ts) node
          ∙ ap (λ o. unwrap_or o (Apply (op.Input k s) (all_replaced ts us))) fit.1),
    )

-- no other operation is replaced
abbrev IsInput : Op → Type 0
IsInput (op.Input k s) = Unit {0}
IsInput _ = ⊥

op_replaced-other : (ts : List Term) (o : Op) (us : Operands) → ¬ (IsInput o) → op_replaced ts o us ≡ Apply o us
op_replaced-other ts (op.Input k s) us other = absurd (other tt)
op_replaced-other ts o us other = refl

-- a node of the other table that is no input, and its arguments' images
pub record IsMoved (table from : Table) (inputs nodes images : List TermId) (at : TermId) (o : Op) (args : List TermId)
    : Type 0 where
  pub may : AreGraftable table from inputs
  pub rising : AreRising nodes
  pub are : AreImages table from (map (term_at table) inputs) nodes images
  pub ready : IsReady table from inputs nodes at
  pub stands : slice_get from.nodes at.0 ≡ Some (record { op = o; args = args })
  pub other : (k : ℕ) (s : Sort) → ¬ (o ≡ op.Input k s)

not_input : (o : Op) → ((k : ℕ) (s : Sort) → ¬ (o ≡ op.Input k s)) → ¬ (IsInput o)
not_input (op.Input k s) other = λ _. other k s refl
not_input o other = λ none. none

moved-term : (table from : Table) (inputs nodes images : List TermId) (at : TermId) (o : Op) (args : List TermId)
    → IsMoved table from inputs nodes images at o args
    → Apply o (operands (terms_of table) (map (image_in nodes images) args))
    ≡ replaced (terms_at table inputs) (term_at from at)
unfolding replaced
moved-term table from inputs nodes images at o args is =
    let ts = terms_at table inputs in
    let e : Entry = record { op = o; args = args } in
    let listed = recursion_from_All (Contains nodes) args (is.ready.arguments e is.stands) in
    ap (Apply o) (images-operands table from ts nodes images is.rising is.are args listed)
    ∙ sym (op_replaced-other ts o (all_replaced ts (operands (terms_of from) args)) (not_input o is.other))
    ∙ sym (ap (replaced ts) (term_at-node from is.may.is_other at e is.stands))

pub moved-within : (table from : Table) (inputs nodes images : List TermId) (at : TermId) (o : Op) (args : List TermId)
    → IsMoved table from inputs nodes images at o args
    → All (λ (a : TermId). a.0 < length table.nodes) (map (image_in nodes images) args)
moved-within table from inputs nodes images at o args is =
    All-from_recursion (λ (a : TermId). a.0 < length table.nodes) (map (image_in nodes images) args)
    (images-below table from (terms_at table inputs) nodes images is.rising is.are args
    (recursion_from_All (Contains nodes) args (is.ready.arguments (record { op = o; args = args }) is.stands)))

pub moved-few : (table from : Table) (inputs nodes images : List TermId) (at : TermId) (o : Op) (args : List TermId)
    → IsMoved table from inputs nodes images at o args → length args ≤ 3
moved-few table from inputs nodes images at o args is =
    let node = node-sorted from is.may.is_other at.0 is.ready.there in
    let sorted = ap (sort_of from.pointer)
    (sym (term_at-node from is.may.is_other at (record { op = o; args = args }) is.stands)) ∙ node.1 in
    omega (arith, arity-of_args from o args node.0 sorted, arity-at_most o)

-- the term is well-sorted, so nothing refuses it
pub moved-allowed : (table from : Table) (inputs nodes images : List TermId) (at : TermId) (o : Op) (args : List TermId)
    → IsMoved table from inputs nodes images at o args
    → make_refusal table o (map (image_in nodes images) args) ≡ None
moved-allowed table from inputs nodes images at o args is = by (make_refusal table o images_of_args) refl
  where
    images_of_args : List TermId
    images_of_args = map (image_in nodes images) args

    by : (q : Option MakeFault) → make_refusal table o images_of_args ≡ q → q ≡ None
    by None e = refl
    by (Some f) e =
        let node = node-sorted from is.may.is_other at.0 is.ready.there in
        let sorted = sort_of-replaced table.pointer (terms_at table inputs) (term_at from at) node.0
        (ap (λ p. sort_of p (term_at from at)) (sym is.may.pointer) ∙ node.1) is.ready.fit in
        let refused = sort_of-refused table is.may.is_table o images_of_args
        (moved-within table from inputs nodes images at o args is) f e in
        let here = ap (sort_of table.pointer) (moved-term table from inputs nodes images at o args is) ∙ sorted in
        absurd (none-some node.0 (sym refused ∙ here))

pub moved-made : (table from : Table) (inputs nodes images : List TermId) (at : TermId) (o : Op)
    (args moved : List TermId) → IsMoved table from inputs nodes images at o args
    → moved ≡ map (image_in nodes images) args
    → (new : Table) (r : Result TermId AllocError)
    → IfOk r (λ id. term_at new id ≡ Apply o (operands (terms_of table) moved))
    → IfOk r (λ id. term_at new id ≡ replaced (terms_at table inputs) (term_at from at))
moved-made table from inputs nodes images at o args moved is same new r h =
    IfOk-weaker r _ _ (λ id e. e ∙ ap (λ moved. Apply o (operands (terms_of table) moved)) same
    ∙ moved-term table from inputs nodes images at o args is) h

-- ---- a table with more nodes

pub Extends-itself : (table : Table) → Extends table table
Extends-itself table = record { pointer = refl; more = []; nodes = sym (append-nothing table.nodes) }

pub Extends-further : (a b c : Table) → Extends a b → Extends b c → Extends a c
Extends-further a b c first second = record {
  pointer = second.pointer ∙ first.pointer;
  more = first.more ++ second.more;
  nodes = second.nodes ∙ ap (λ ns. ns ++ second.more) first.nodes ∙ append_assoc a.nodes first.more second.more;
}

pub Extends-longer : (old new : Table) → Extends old new → length old.nodes ≤ length new.nodes
Extends-longer old new more = omega (arith, ap length more.nodes, length-append old.nodes more.more)

-- earlier nodes keep their terms
pub Extends-term : (old new : Table) → Extends old new → (at : TermId) → at.0 < length old.nodes
    → term_at new at ≡ term_at old at
Extends-term old new more at within =
    ap (λ o. unwrap_or o (term_in [] 0)) (ap (λ ns. slice_get (terms_from [] ns) at.0) more.nodes
    ∙ ap (λ (ts : List Term). slice_get ts at.0) (terms_from-append [] old.nodes more.more)
    ∙ slice_get-terms_from (terms_of old) more.more at.0 (omega (arith, within, length-terms_of old)))

same-terms : (old new : Table) → Extends old new → (inputs : List TermId)
    → AllByRecursion (λ (a : TermId). a.0 < length old.nodes) inputs → terms_at new inputs ≡ terms_at old inputs
same-terms old new more [] within = refl
same-terms old new more (a ∷ inputs) within =
    ap (λ t. t ∷ terms_at new inputs) (Extends-term old new more a within.0)
    ∙ ap (λ ts. term_at old a ∷ ts) (same-terms old new more inputs within.1)

pub Extends-terms : (old new : Table) → Extends old new → (inputs : List TermId)
    → All (λ (a : TermId). a.0 < length old.nodes) inputs → terms_at new inputs ≡ terms_at old inputs
Extends-terms old new more inputs within =
    same-terms old new more inputs (recursion_from_All (λ (a : TermId). a.0 < length old.nodes) inputs within)

Extends-within : (old new : Table) → Extends old new → (inputs : List TermId)
    → All (λ (a : TermId). a.0 < length old.nodes) inputs → All (λ (a : TermId). a.0 < length new.nodes) inputs
Extends-within old new more inputs within =
    All-weaker (λ (a : TermId). a.0 < length old.nodes) (λ (a : TermId). a.0 < length new.nodes)
    (λ a lt. omega (arith, lt, Extends-longer old new more)) inputs within

-- ---- along a list of nodes

-- the images of nodes so far, in a table that extends an older one, for the older one's terms
pub record IsGrafting (old table from : Table) (inputs nodes images : List TermId) : Type 0 where
  pub is_table : IsTable table
  pub extends : Extends old table
  pub are : AreImages table from (map (term_at old) inputs) nodes images

pub IsGrafting-none : (old from : Table) (inputs : List TermId) → IsTable old → IsGrafting old old from inputs [] []
IsGrafting-none old from inputs is = record {
  is_table = is;
  extends = Extends-itself old;
  are = record { within = λ k d l. absurd (omega (arith, l)); terms = refl };
}

-- the older table's nodes may stand in place of the inputs still
pub IsGrafting-may : (old table from : Table) (inputs nodes images : List TermId) → AreGraftable old from inputs
    → IsGrafting old table from inputs nodes images → AreGraftable table from inputs
IsGrafting-may old table from inputs nodes images may is = record {
  is_table = is.is_table;
  is_other = may.is_other;
  pointer = may.pointer ∙ sym is.extends.pointer;
  inputs_within = Extends-within old table is.extends inputs may.inputs_within;
}

pub IsGrafting-terms : (old table from : Table) (inputs nodes images : List TermId) → AreGraftable old from inputs
    → IsGrafting old table from inputs nodes images → map (term_at table) inputs ≡ map (term_at old) inputs
IsGrafting-terms old table from inputs nodes images may is =
    Extends-terms old table is.extends inputs may.inputs_within

pub IsGrafting-images : (old table from : Table) (inputs nodes images : List TermId) → AreGraftable old from inputs
    → IsGrafting old table from inputs nodes images
    → AreImages table from (map (term_at table) inputs) nodes images
IsGrafting-images old table from inputs nodes images may is =
    subst (λ ts. AreImages table from ts nodes images)
    (sym (IsGrafting-terms old table from inputs nodes images may is)) is.are

-- one more image
pub IsGrafting-more : (old table new from : Table) (inputs nodes images : List TermId) (at id : TermId)
    → AreGraftable old from inputs → IsGrafting old table from inputs nodes images → IsTable new → Extends table new
    → id.0 < length new.nodes → term_at new id ≡ replaced (map (term_at table) inputs) (term_at from at)
    → IsGrafting old new from inputs (nodes ++ at ∷ []) (images ++ id ∷ [])
IsGrafting-more old table new from inputs nodes images at id may is is_table more within term =
    let f = λ (a : TermId). replaced (map (term_at old) inputs) (term_at from a) in
    record {
      is_table = is_table;
      extends = Extends-further old table new is.extends more;
      are = record {
        within = All-push (λ (a : TermId). a.0 < length new.nodes) images id
            (Extends-within table new more images is.are.within) within;
        terms = map-push (term_at new) images id
            ∙ ap (λ ts. ts ++ term_at new id ∷ []) (Extends-terms table new more images is.are.within ∙ is.are.terms)
            ∙ ap (λ t. map f nodes ++ t ∷ []) (term ∙ ap (λ ts. replaced ts (term_at from at))
            (IsGrafting-terms old table from inputs nodes images may is))
            ∙ sym (map-push f nodes at);
      };
    }

-- the next node of a list in order is ready
pub next-ready : (old table from : Table) (inputs nodes images : List TermId) → AreGraftable old from inputs
    → (k : ℕ) (at : TermId) → IsGrafting old table from inputs (take k nodes) images → IsTopological from nodes
    → slice_get nodes k ≡ Some at
    → ReplacementsFit old.pointer (map (term_at old) inputs) (term_at from at)
    → IsReady table from inputs (take k nodes) at
next-ready old table from inputs nodes images may k at is order h fit = record {
  there = within-at;
  fit = subst (λ p. ReplacementsFit p (map (term_at table) inputs) (term_at from at)) (sym is.extends.pointer)
      (subst (λ ts. ReplacementsFit old.pointer ts (term_at from at))
      (sym (IsGrafting-terms old table from inputs (take k nodes) images may is)) fit);
  arguments = λ e stands. order.arguments k at e h stands;
}
  where
    within-at : at.0 < length from.nodes
    within-at = subst (λ (a : TermId). a.0 < length from.nodes)
        (get_or_from_slice_get nodes k at at h) (order.within k at (slice_get_within nodes k at h))

-- ---- what a term of the other table is with its inputs replaced

-- all nodes of a term's subterms have terms in place of their inputs where the term has
pub subterms-fit : (p : ℕ) (ts : List Term) (from : Table) (at : TermId) (nodes : List TermId)
    → AreSubterms from (at ∷ []) nodes → ReplacementsFit p ts (term_at from at)
    → All (λ (a : TermId). ReplacementsFit p ts (term_at from a)) nodes
subterms-fit p ts from at nodes are fit = λ k d within.
    let a = get_or nodes k d in
    let below = (are.exact a).0 (k, within, same-element nodes k a d within) in
    let top = only_one at below.1.0 below.1.1 in
    ReplacementsFit-subterm p ts (term_at from at) fit (term_at from a)
    (subst (λ (r : TermId). IsSubterm (term_at from a) (term_at from r)) (sym top) below.1.2)

-- a node of the table for the term of the other's node with its inputs replaced
pub record IsGraft (old new from : Table) (inputs : List TermId) (at id : TermId) : Type 0 where
  pub may : AreGraftable old from inputs
  pub there : at.0 < length from.nodes
  pub fit : ReplacementsFit old.pointer (map (term_at old) inputs) (term_at from at)
  pub pointer : new.pointer ≡ old.pointer
  pub term : term_at new id ≡ replaced (map (term_at old) inputs) (term_at from at)

old-sorted : (old new from : Table) (inputs : List TermId) (at id : TermId) → IsGraft old new from inputs at id
    → (s : Sort) × (sort_of old.pointer (term_at from at) ≡ Some s)
old-sorted old new from inputs at id is =
    let node = node-sorted from is.may.is_other at.0 is.there in
    (node.0, ap (λ p. sort_of p (term_at from at)) (sym is.may.pointer) ∙ node.1)

pub graft-sort : (old new from : Table) (inputs : List TermId) (at id : TermId) → IsGraft old new from inputs at id
    → sort_of new.pointer (term_at new id) ≡ sort_of old.pointer (term_at from at)
graft-sort old new from inputs at id is =
    let sorted = old-sorted old new from inputs at id is in
    ap (λ p. sort_of p (term_at new id)) is.pointer ∙ ap (sort_of old.pointer) is.term
    ∙ sort_of-replaced old.pointer (terms_at old inputs) (term_at from at) sorted.0 sorted.1 is.fit ∙ sym sorted.1

pub graft-value : (old new from : Table) (inputs : List TermId) (at id : TermId) → IsGraft old new from inputs at id
    → (values : List Value)
    → value values (term_at new id) ≡ value (map (value values) (map (term_at old) inputs)) (term_at from at)
graft-value old new from inputs at id is values =
    let sorted = old-sorted old new from inputs at id is in
    ap (value values) is.term
    ∙ value-replaced old.pointer values (terms_at old inputs) (term_at from at) sorted.0 sorted.1 is.fit

pub graft-thing : (old new from : Table) (inputs : List TermId) (at id : TermId) → IsGraft old new from inputs at id
    → (given : List Thing) → thing new.pointer given (term_at new id)
    ≡ thing old.pointer (map (thing old.pointer given) (map (term_at old) inputs)) (term_at from at)
graft-thing old new from inputs at id is given =
    let sorted = old-sorted old new from inputs at id is in
    ap (λ p. thing p given (term_at new id)) is.pointer ∙ ap (thing old.pointer given) is.term
    ∙ thing-replaced old.pointer given (terms_at old inputs) (term_at from at) sorted.0 sorted.1 is.fit

pub graft-fit : (old new from : Table) (inputs : List TermId) (at id : TermId) → IsGraft old new from inputs at id
    → (values : List Value) → All (λ (a : TermId). InputsFit values (term_at old a)) inputs
    → InputsFit values (term_at new id)
graft-fit old new from inputs at id is values all =
    subst (InputsFit values) (sym is.term)
    (InputsFit-replaced old.pointer values (terms_at old inputs)
    (All-from_recursion (InputsFit values) (terms_at old inputs) (all-map (InputsFit values) (term_at old) inputs
    (recursion_from_All (λ (a : TermId). InputsFit values (term_at old a)) inputs all)))
    (term_at from at) is.fit)
