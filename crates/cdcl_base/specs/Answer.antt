-- What the answers of a solver say.
use Rattle.std.specs.Prelude.{Bool, List}
use Rattle.cnf_core.specs.declared.log.Chain.{Chain}
use Rattle.cdcl_base.specs.declared.answer.Answer.{Answer}
use Rattle.cdcl_base.specs.declared.answer.Answer.TheVariants.{Model, Refuted, Spent}

-- of the values of a model
abbrev pub OnModel : Answer → (List Bool → Type 0) → Type 0
OnModel (Model values) P = P values
OnModel (Refuted log) P = Unit {0}
OnModel (Spent log) P = Unit {0}

-- of the chains of a refutation
abbrev pub OnRefuted : Answer → (List Chain → Type 0) → Type 0
OnRefuted (Model values) P = Unit {0}
OnRefuted (Refuted log) P = P log.chains
OnRefuted (Spent log) P = Unit {0}

-- of the chains for which the fuel was spent
abbrev pub OnSpent : Answer → (List Chain → Type 0) → Type 0
OnSpent (Model values) P = Unit {0}
OnSpent (Refuted log) P = Unit {0}
OnSpent (Spent log) P = P log.chains

-- of the chains of either
abbrev pub OnLog : Answer → (List Chain → Type 0) → Type 0
OnLog (Model values) P = Unit {0}
OnLog (Refuted log) P = P log.chains
OnLog (Spent log) P = P log.chains
