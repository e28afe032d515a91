use Rattle.spec_reader.proofs.scope.input.Goals as goal

pub returns-in-Ok : goal.returns-in-Ok
returns-in-Ok c = record {
  extends = c.make.ensures.extends;
  stands = record { within = c.in-Ok.ensures.within; term = c.in-Ok.ensures.term };
}
