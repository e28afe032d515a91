use Rattle.std.proofs.lemmas.Result.{IfOk-weaker}
use Rattle.circuit.proofs.GrowthLemmas.{grows-itself}
use Rattle.bit_blast.proofs.OperationLemmas.{inverted-word, part-as, zeros-as, signs-as, on-ok}
use Rattle.bit_blast.proofs.word.of_one.Goals as goal

pub returns-in-Not-clause-grows : goal.returns-in-Not-clause-grows
returns-in-Not-clause-grows c = on-ok c.inverted.result (grows-itself c.requires.netlist)

pub returns-in-Not-clause-word : goal.returns-in-Not-clause-word
returns-in-Not-clause-word c = IfOk-weaker c.inverted.result _ _
    (λ r is. inverted-word c.args.op c.args.circuit.now c.args.word.now r c.in-Not.is
    (is c.args.circuit.now c.requires.word))
    c.inverted.ensures

pub returns-in-Extract-clause-grows : goal.returns-in-Extract-clause-grows
returns-in-Extract-clause-grows c = on-ok c.part.result (grows-itself c.requires.netlist)

pub returns-in-Extract-clause-word : goal.returns-in-Extract-clause-word
returns-in-Extract-clause-word c = IfOk-weaker c.part.result _ _
    (λ r is. part-as c.args.op c.in-Extract.high c.in-Extract.low c.from-in-Extract.result c.from.result c.in-Extract.is
    c.from-in-Extract.ensures c.from.ensures c.args.circuit.now c.args.word.now r
    (is c.args.circuit.now c.requires.word))
    c.part.ensures

pub returns-in-ZeroExtend-clause-grows : goal.returns-in-ZeroExtend-clause-grows
returns-in-ZeroExtend-clause-grows c = on-ok c.zero_extended.result (grows-itself c.requires.netlist)

pub returns-in-ZeroExtend-clause-word : goal.returns-in-ZeroExtend-clause-word
returns-in-ZeroExtend-clause-word c = IfOk-weaker c.zero_extended.result _ _
    (λ r is. zeros-as c.args.op c.in-ZeroExtend.by c.from-in-ZeroExtend.result c.in-ZeroExtend.is
    c.from-in-ZeroExtend.ensures c.args.circuit.now c.args.word.now r (is c.args.circuit.now c.requires.word))
    c.zero_extended.ensures

pub returns-in-SignExtend-clause-grows : goal.returns-in-SignExtend-clause-grows
returns-in-SignExtend-clause-grows c = on-ok c.sign_extended.result (grows-itself c.requires.netlist)

pub returns-in-SignExtend-clause-word : goal.returns-in-SignExtend-clause-word
returns-in-SignExtend-clause-word c = IfOk-weaker c.sign_extended.result _ _
    (λ r is. signs-as c.args.op c.in-SignExtend.by c.from-in-SignExtend.result c.in-SignExtend.is
    c.from-in-SignExtend.ensures c.args.circuit.now c.args.word.now r (is c.args.circuit.now c.requires.word))
    c.sign_extended.ensures
