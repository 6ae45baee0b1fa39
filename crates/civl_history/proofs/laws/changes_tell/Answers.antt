use Rattle.civl_history.proofs.Changing.{changes_lead, changes_differ}
use Rattle.civl_history.proofs.laws.changes_tell.Goals as goal

pub returns-clause-lead : goal.returns-clause-lead
returns-clause-lead c = changes_lead c.equality.ensures.values

pub returns-clause-differ : goal.returns-clause-differ
returns-clause-differ c = changes_differ c.equality.ensures.values
