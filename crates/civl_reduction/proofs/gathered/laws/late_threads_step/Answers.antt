use Rattle.civl_reduction.proofs.gathered.Gathering.{late_threads_stay_late, late_threads_step, failures_stay}
use Rattle.civl_reduction.proofs.gathered.laws.late_threads_step.Goals as goal

pub returns-clause-stay : goal.returns-clause-stay
returns-clause-stay c = late_threads_stay_late c.checked.ensures.roots c.checked.ensures.permissions c.checked.ensures.movers

pub returns-clause-step : goal.returns-clause-step
returns-clause-step c = late_threads_step c.checked.ensures.roots c.checked.ensures.permissions c.checked.ensures.movers

pub returns-clause-fail : goal.returns-clause-fail
returns-clause-fail c = failures_stay c.checked.ensures.roots c.checked.ensures.permissions c.checked.ensures.movers
