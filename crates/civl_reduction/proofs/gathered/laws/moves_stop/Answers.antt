use Rattle.civl_reduction.proofs.gathered.Gathering.{early_moves_stop, late_moves_stop}
use Rattle.civl_reduction.proofs.gathered.laws.moves_stop.Goals as goal

pub returns-clause-early : goal.returns-clause-early
returns-clause-early c = early_moves_stop c.checked.ensures.roots c.checked.ensures.permissions c.checked.ensures.movers c.inside.ensures.safe

pub returns-clause-late : goal.returns-clause-late
returns-clause-late c = late_moves_stop c.checked.ensures.roots c.checked.ensures.permissions c.checked.ensures.movers c.inside.ensures.safe
