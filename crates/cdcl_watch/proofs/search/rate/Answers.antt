use Rattle.std.proofs.Common.{◌∙◌, sym}
use Rattle.cdcl_watch.proofs.search.rate.Goals as goal

pub returns-clause-scores : goal.returns-clause-scores
returns-clause-scores c = c.decay.ensures.length ∙ c.bump_all.ensures.length

pub raise_all-requires-clause-scored : goal.raise_all-requires-clause-scored
raise_all-requires-clause-scored c = c.decay.ensures.length ∙ c.bump_all.ensures.length ∙ c.requires.scored

pub insert_all-requires-clause-scored : goal.insert_all-requires-clause-scored
insert_all-requires-clause-scored c =
    c.decay.ensures.length ∙ c.bump_all.ensures.length ∙ c.requires.scored ∙ sym c.raise_all.ensures
