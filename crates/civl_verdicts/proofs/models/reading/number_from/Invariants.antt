use Rattle.std.specs.Prelude.{◌≡◌}
use Rattle.civl_cnf.specs.ClauseSet.{assignment}
use Rattle.civl_verdicts.specs.models.Reading.{number_from}
use Rattle.civl_verdicts.proofs.models.reading.number_from.Given as goal

abbrev pub invariant-loop-at : goal.invariant-loop-at
invariant-loop-at l = l.number ≡ number_from (assignment l.bits) l.first l.at
