use Rattle.std.proofs.Common.{take}
use Rattle.claim_core.specs.Sizes.{TellsLeast, told}
use Rattle.claim_core.proofs.machine.Core.least.Given as goal

abbrev pub invariant-loop-place : goal.invariant-loop-place
invariant-loop-place g l =
    TellsLeast l.self-inside.plan (told g.E.Least.size (take l.place l.self-inside.book.items)) l.goal l.least
