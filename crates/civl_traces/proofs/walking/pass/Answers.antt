use Rattle.std.proofs.Common.{ap, ◌∙◌}
use Rattle.civl_conditions.specs.paths.Paths.{Past}
use Rattle.civl_conditions.proofs.paths.Passing.{passing}
use Rattle.civl_traces.proofs.walking.pass.Goals as goal

pub returns-in-Assign : goal.returns-in-Assign
returns-in-Assign c = c.assign.ensures ∙ rw c.in-Assign.is (simp passing)

pub returns-in-Intro : goal.returns-in-Intro
returns-in-Intro c = ap Past c.introduce.ensures ∙ rw c.in-Intro.is (simp passing)
