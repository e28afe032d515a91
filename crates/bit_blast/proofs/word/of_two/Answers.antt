use Rattle.std.proofs.Common.{◌≡◌, [], ◌∷◌, true, false, rules, sym, subst}
use Rattle.std.proofs.lemmas.Result.{IfOk-weaker}
use Rattle.circuit.proofs.GrowthLemmas.{grows-itself}
use Rattle.bit_blast.specs.Operations.{IsOpWord, is_connective, is_comparison, is_shift}
use Rattle.bit_blast.proofs.OperationLemmas.{on-ok, two-else, arithmetic-alike, arithmetic-word, alike-arithmetic}
use Rattle.bit_blast.proofs.OperationLemmas.{alike-shift, comparison-alike, connective-word, compared-word, joined-word}
use Rattle.bit_blast.proofs.word.of_two.Goals as goal

pub arithmetic-requires : goal.arithmetic-requires
arithmetic-requires c =
    let first : is_connective c.args.op ≡ false = search rules in
    let second : is_comparison c.args.op ≡ false = search rules in
    let third : is_shift c.args.op ≡ false = search rules in
    let is = two-else c.args.op c.args.left.now c.args.right.now c.requires.stands first second third
    c.in_default.not-Concat in
    let alike = arithmetic-alike c.args.op c.args.left.now c.args.right.now (alike-arithmetic c.args.op is)
    c.requires.stands in
    record {
      netlist = c.requires.netlist;
      left = c.requires.left;
      right = c.requires.right;
      width = alike.width;
      narrow = alike.narrow;
      op = is;
    }

pub returns-in-Concat-clause-grows : goal.returns-in-Concat-clause-grows
returns-in-Concat-clause-grows c = on-ok c.joined.result (grows-itself c.requires.netlist)

pub returns-in-Concat-clause-word : goal.returns-in-Concat-clause-word
returns-in-Concat-clause-word c = IfOk-weaker c.joined.result _ _
    (λ r is. subst (λ o. IsOpWord c.args.circuit.now o (c.args.left.now ∷ c.args.right.now ∷ []) r) (sym c.in-Concat.is)
    (joined-word c.args.circuit.now c.args.left.now c.args.right.now r
    (is c.args.circuit.now c.requires.left c.requires.right)))
    c.joined.ensures.word

pub returns-in_ok-signal-in-And-clause-word : goal.returns-in_ok-signal-in-And-clause-word
returns-in_ok-signal-in-And-clause-word c =
    let is : is_connective c.args.op ≡ true = search rules in
    IfOk-weaker c.copied.result _ _
    (λ r same. connective-word c.args.op c.connective.new.circuit c.args.left.now c.args.right.now _ _
    c.in_ok-signal-in-And.signal is c.in_ok-signal-in-And.ensures.value r same)
    c.copied.ensures

pub returns-in_ok-signal-in-Eq-clause-word : goal.returns-in_ok-signal-in-Eq-clause-word
returns-in_ok-signal-in-Eq-clause-word c =
    let is : is_comparison c.args.op ≡ true = search rules in
    IfOk-weaker c.copied-in-Eq.result _ _
    (λ r same. compared-word c.args.op c.compared.new.circuit c.args.left.now c.args.right.now
    c.in_ok-signal-in-Eq.signal is c.in_ok-signal-in-Eq.ensures.value r same)
    c.copied-in-Eq.ensures

pub returns-in-BvShl-clause-word : goal.returns-in-BvShl-clause-word
returns-in-BvShl-clause-word c =
    let is : is_shift c.args.op ≡ true = search rules in
    IfOk-weaker c.moved.result _ _
    (λ r word. arithmetic-word c.args.op c.moved.new.circuit c.args.left.now c.args.right.now r
    (alike-shift c.args.op is) word)
    c.moved.ensures.word

pub returns-in_default : goal.returns-in_default
returns-in_default c =
    let first : is_connective c.args.op ≡ false = search rules in
    let second : is_comparison c.args.op ≡ false = search rules in
    let third : is_shift c.args.op ≡ false = search rules in
    let is = two-else c.args.op c.args.left.now c.args.right.now c.requires.stands first second third
    c.in_default.not-Concat in
    record {
      grows = c.arithmetic.ensures.grows;
      word = IfOk-weaker c.arithmetic.result _ _
          (λ r word. arithmetic-word c.args.op c.arithmetic.new.circuit c.args.left.now c.args.right.now r
          (alike-arithmetic c.args.op is) word)
          c.arithmetic.ensures.word;
    }

pub compared-requires-clause-width : goal.compared-requires-clause-width
compared-requires-clause-width c =
    let is : is_comparison c.args.op ≡ true = search rules in
    (comparison-alike c.args.op c.args.left.now c.args.right.now is c.requires.stands).width
