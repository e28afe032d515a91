-- What is given for a formula is given for one that keeps its goal and its operations.
use Rattle.std.proofs.Common.{ℕ, List, sym, subst}
use Rattle.isel_spec.specs.declared.spec.Spec.{Spec}
use Rattle.pattern_core.specs.declared.pattern.Example.{Example}
use Rattle.pattern_core.specs.declared.pattern.Pattern.{Pattern}
use Rattle.loc_encode.specs.declared.encoded.Encoded.{Encoded}
use Rattle.loc_encode.specs.Given.{IsGiven, Keeps}

pub given-kept : (s : Spec) (old new : Encoded) (inputs : ℕ) (examples : List Example) (blocked : List Pattern)
    → Keeps old.goal old.multi inputs examples blocked new → IsGiven s old.goal old.multi → IsGiven s new.goal new.multi
given-kept s old new inputs examples blocked kept given =
    subst (λ ops. IsGiven s new.goal ops) (sym kept.ops_are)
    (subst (λ goal. IsGiven s goal old.multi) (sym kept.goal_is) given)
