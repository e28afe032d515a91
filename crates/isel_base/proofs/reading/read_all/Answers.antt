use Rattle.isel_base.proofs.Told.{read_more}
use Rattle.std.proofs.lemmas.Grind.{common_steps}
use Rattle.std.proofs.Common.{arith, rules}
use Rattle.isel_base.proofs.reading.read_all.Goals as goal

pub returns-in_err-read_next-clause-only : goal.returns-in_err-read_next-clause-only
returns-in_err-read_next-clause-only g c =
    read_more g.F.Files.read_leaves c.args.name.now c.args.files.now c.loop-files.files c.read_next.new.files
    c.loop-files.invariant.only c.in_err-read_next.ensures.leaves

pub returns-then-branch-eq0-clause-only : goal.returns-then-branch-eq0-clause-only
returns-then-branch-eq0-clause-only g c =
    read_more g.F.Files.read_leaves c.args.name.now c.args.files.now c.loop-files.files c.read_next.new.files
    c.loop-files.invariant.only c.in_ok-read_next.ensures.leaves

pub loop-files-preserved : goal.loop-files-preserved
loop-files-preserved g c = record {
  asked = grind (arith, common_steps);
  told = grind (arith, common_steps);
  counts = λ other. first_of (search rules, grind (arith, common_steps));
  same = λ other. first_of (search rules, grind (arith, common_steps));
  only = read_more g.F.Files.read_leaves c.args.name.now c.args.files.now c.loop-files.files c.read_next.new.files
      c.loop-files.invariant.only c.in_ok-read_next.ensures.leaves;
  stays = λ other h. c.in_ok-read_next.ensures.stays other (c.loop-files.invariant.stays other h);
}
