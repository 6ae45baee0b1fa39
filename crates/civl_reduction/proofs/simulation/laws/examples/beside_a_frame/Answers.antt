use Rattle.std.proofs.Common.{refl}
use Rattle.civl_reduction.proofs.simulation.laws.examples.beside_a_frame.Goals as goal

pub returns-clause-call : goal.returns-clause-call
returns-clause-call c = refl

pub returns-clause-frame : goal.returns-clause-frame
returns-clause-frame c = (refl, refl)
