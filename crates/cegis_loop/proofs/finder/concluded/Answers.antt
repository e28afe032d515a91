use Rattle.std.proofs.Common.{subst}
use Rattle.cegis_loop.specs.Finder.{IsDecidedFor}
use Rattle.cegis_loop.proofs.finder.concluded.Goals as goal

pub returns-in-Spent : goal.returns-in-Spent
returns-in-Spent c =
    subst (IsDecidedFor c.args.spec.now c.args.terms.now c.args.encoded.now c.args.units) c.in-Spent.is
    c.requires.decided
