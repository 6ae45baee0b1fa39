use Rattle.std.proofs.Common.{refl}
use Rattle.civl_linear.proofs.Examples.{examples}
use Rattle.civl_reduction.proofs.permissions.laws.examples.frames.Goals as goal

pub returns-clause-ends : goal.returns-clause-ends
returns-clause-ends c = (refl, refl)

pub returns-clause-topmost : goal.returns-clause-topmost
returns-clause-topmost c = (simp examples, simp examples, simp examples)

pub returns-clause-waiting : goal.returns-clause-waiting
returns-clause-waiting c = simp examples
