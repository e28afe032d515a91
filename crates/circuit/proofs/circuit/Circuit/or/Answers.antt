use Rattle.std.proofs.Common.{length}
use Rattle.circuit.specs.Signal.{signal_true}
use Rattle.circuit.proofs.FunctionLemmas.{signal-opposite, neither-table}
use Rattle.circuit.proofs.circuit.Circuit.or.Goals as goal

pub and-requires-clause-a : goal.and-requires-clause-a
and-requires-clause-a c = (c.opposite.ensures.over (length c.args.self.now.gates)).1 c.requires.a

pub and-requires-clause-b : goal.and-requires-clause-b
and-requires-clause-b c = (c.opposite-2.ensures.over (length c.args.self.now.gates)).1 c.requires.b

pub returns-clause-value : goal.returns-clause-value
returns-clause-value c =
    signal-opposite c.and.new.self _ _ c.in_ok-neither.neither c.opposite-3.result c.opposite-3.ensures.value
    c.opposite-3.ensures.over
    (λ v. rw (c.opposite.ensures.value v, c.opposite-2.ensures.value v)
    (neither-table (signal_true v c.args.a) (signal_true v c.args.b)))
    c.in_ok-neither.ensures.value
