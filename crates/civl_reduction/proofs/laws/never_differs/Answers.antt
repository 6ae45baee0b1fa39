use Rattle.civl_reduction.proofs.Neighbours.{exchanged_never_differ, movers_never_differ}
use Rattle.civl_reduction.proofs.laws.never_differs.Goals as goal

pub returns-clause-exchanged : goal.returns-clause-exchanged
returns-clause-exchanged c = exchanged_never_differ

pub returns-clause-movers : goal.returns-clause-movers
returns-clause-movers c = movers_never_differ
