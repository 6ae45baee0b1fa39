use Rattle.civl_reduction.proofs.gathered.Gathering.{early_moves_gather, late_moves_gather}
use Rattle.civl_reduction.proofs.gathered.laws.moves_gather.Goals as goal

pub returns-clause-early : goal.returns-clause-early
returns-clause-early c = early_moves_gather c.checked.ensures.roots c.checked.ensures.permissions c.checked.ensures.movers

pub returns-clause-late : goal.returns-clause-late
returns-clause-late c = late_moves_gather c.checked.ensures.roots c.checked.ensures.permissions c.checked.ensures.movers
