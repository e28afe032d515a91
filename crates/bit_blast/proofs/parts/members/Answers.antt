use Rattle.std.proofs.Common.{◌≡◌, ◌∙◌, [], ◌∷◌, length, get_or, ap, subst, arith}
use Rattle.bv_terms.specs.Signature.{Signature, arity}
use Rattle.bit_blast.proofs.MemberLemmas.{not-members, connective-members, joins-fit}
use Rattle.bit_blast.proofs.NodeFacts.{IsNode, node-facts, one-operand, two-operands}
use Rattle.bit_blast.proofs.parts.members.Goals as goal

pub bounds-args-0 : goal.bounds-args-0
bounds-args-0 c =
    let node = node-facts c.args.terms.now c.requires.table c.args.part.at _ _ c.node.ensures in
    let one : length c.node.result.1.now ≡ 1 = node.count ∙ ap arity c.in-Not.is in
    omega arith

pub returns-in-Not : goal.returns-in-Not
returns-in-Not c =
    let node = one-operand c.args.terms.now c.requires.table c.args.part.at _ _ c.node.ensures (ap arity c.in-Not.is) in
    not-members c.args.terms.now c.requires.table c.args.join c.args.part.at _ c.args.part.holds c.requires.formula
    (subst (λ o. IsNode c.args.terms.now c.args.part.at o (get_or c.node.result.1.now 0 (record {
      0 =
          0;
    }) ∷ [])) c.in-Not.is
    node)

pub bounds-args-0-2 : goal.bounds-args-0-2
bounds-args-0-2 c =
    let node = node-facts c.args.terms.now c.requires.table c.args.part.at _ _ c.node.ensures in
    let two : length c.node.result.1.now ≡ 2 = node.count
    ∙ ap (λ (sig : Signature). length sig.slots) c.in_ok-joined.ensures.signature in
    omega arith

pub bounds-args-1 : goal.bounds-args-1
bounds-args-1 c =
    let node = node-facts c.args.terms.now c.requires.table c.args.part.at _ _ c.node.ensures in
    let two : length c.node.result.1.now ≡ 2 = node.count
    ∙ ap (λ (sig : Signature). length sig.slots) c.in_ok-joined.ensures.signature in
    omega arith

pub returns : goal.returns
returns c =
    let con = c.in_ok-joined.ensures in
    let node = two-operands c.args.terms.now c.requires.table c.args.part.at _ _ c.node.ensures
    (ap (λ (sig : Signature). length sig.slots) con.signature) in
    connective-members c.args.terms.now c.requires.table _ c.in_ok-joined.joined c.args.join c.in_ok-joined.is_negated
    con c.args.part.at _ _ c.args.part.holds
    (joins-fit c.in_ok-joined.joined c.args.join c.eq.result c.args.part.holds c.eq.ensures c.if-eq-part.false)
    c.requires.formula node
