use Rattle.std.proofs.Common.{take}
use Rattle.civl_script.specs.Schedules.{AreValuesOf}
use Rattle.civl_script.proofs.schedule.choice_values.Given as goal

abbrev pub invariant-loop-choice : goal.invariant-loop-choice
invariant-loop-choice l = AreValuesOf (take l.choice-index l.choices) l.values.items
