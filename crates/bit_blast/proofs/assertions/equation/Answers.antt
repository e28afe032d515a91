use Rattle.std.proofs.Common.{◌≡◌, ◌∙◌, [], ◌∷◌, length, get_or, sym, ap, subst, arith, Bool, true, false, not, refl}
use Rattle.bv_terms.specs.Signature.{arity}
use Rattle.bit_blast.proofs.MemberLemmas.{part_of, equation-sides}
use Rattle.bit_blast.specs.Parts.{IsEquation}
use Rattle.bit_blast.proofs.NodeFacts.{IsNode, node-facts, two-operands}
use Rattle.bit_blast.proofs.assertions.equation.Goals as goal

shown : (h : Bool) → not h ≡ false → h ≡ true
shown false h = absurd (cc)
shown true h = refl

pub bounds-args-0 : goal.bounds-args-0
bounds-args-0 c =
    let node = node-facts c.args.terms.now c.requires.table c.args.part.at _ _ c.node.ensures in
    let two : length c.node.result.1.now ≡ 2 = node.count ∙ ap arity c.in-Eq.is in
    omega arith

pub bounds-args-1 : goal.bounds-args-1
bounds-args-1 c =
    let node = node-facts c.args.terms.now c.requires.table c.args.part.at _ _ c.node.ensures in
    let two : length c.node.result.1.now ≡ 2 = node.count ∙ ap arity c.in-Eq.is in
    omega arith

pub returns-in-Eq : goal.returns-in-Eq
returns-in-Eq c =
    let table = c.args.terms.now in
    let args = c.node.result.1.now in
    let a = get_or args 0 (record { 0 = 0 }) in
    let b = get_or args 1 (record { 0 = 0 }) in
    let node = two-operands table c.requires.table c.args.part.at _ _ c.node.ensures (ap arity c.in-Eq.is) in
    subst (λ h. IsEquation table (part_of c.args.part.at h) a b) (sym (shown c.args.part.holds c.if-not-part.false))
    (equation-sides table c.requires.table c.args.part.at a b c.requires.formula
    (subst (λ o. IsNode table c.args.part.at o (a ∷ b ∷ [])) c.in-Eq.is node))
