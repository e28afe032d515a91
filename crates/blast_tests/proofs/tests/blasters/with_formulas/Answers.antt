use Rattle.blast_tests.proofs.tests.blasters.with_formulas.Goals as goal

pub loop-formula-init : goal.loop-formula-init
loop-formula-init c = c.in_ok-blaster.ensures.right c.args.terms.now
