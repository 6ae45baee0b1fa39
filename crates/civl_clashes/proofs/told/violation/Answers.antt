use Rattle.civl_clashes.specs.Told.{violation}
use Rattle.civl_clashes.proofs.told.violation.Goals as goal

pub returns-in-Fire : goal.returns-in-Fire
unfolding violation
returns-in-Fire c = rw (c.in-Fire.is, ← c.program-program.ensures.same) c.of_fire.ensures

pub returns-in-Start : goal.returns-in-Start
unfolding violation
returns-in-Start c = rw (c.in-Start.is, ← c.program-program.ensures.same) c.of_start.ensures
