use Rattle.civl_soundness.proofs.Firing.{updates_keep_sorts, fired_is_sorted}
use Rattle.civl_soundness.proofs.laws.actions_keep_sorts.Goals as goal

pub returns-clause-updates : goal.returns-clause-updates
returns-clause-updates c = updates_keep_sorts

pub returns-clause-fired : goal.returns-clause-fired
returns-clause-fired c = fired_is_sorted
