use Rattle.civl_reduction.proofs.staged.Inside.Beside.{stages_are_beside}
use Rattle.civl_reduction.proofs.staged.Inside.Safe.{checked_are_safe_inside}
use Rattle.civl_reduction.proofs.staged.laws.inside.Goals as goal

pub returns-clause-beside : goal.returns-clause-beside
returns-clause-beside c = stages_are_beside c.checked.ensures.permissions c.checked.ensures.roots c.stages_are_runs.ensures c.yields.ensures

pub returns-clause-safe : goal.returns-clause-safe
returns-clause-safe c =
    checked_are_safe_inside c.checked.ensures.permissions c.stages_are_runs.ensures
    (stages_are_beside c.checked.ensures.permissions c.checked.ensures.roots c.stages_are_runs.ensures c.yields.ensures)
