-- When a goal of an outline holds.
use Rattle.std.specs.Prelude.{◌≡◌, false, List, map}
use Rattle.civl_bits.specs.declared.value.Value.{Value}
use Rattle.civl_firing.specs.values.Values.{HaveSorts}
use Rattle.civl_tree.specs.declared.program.Program.{Program}
use Rattle.civl_outlines.specs.declared.outline.Outline.{Outline}
use Rattle.civl_goals.specs.declared.goal.Goal.{Goal}
use Rattle.civl_goals.specs.Variables.{variables}
use Rattle.civl_goals.specs.Failed.{failed}

-- values for the variables of a goal: one of its sort for each
abbrev pub AreValuesOf : Program → Goal → List Value → Type 0
AreValuesOf program goal values = HaveSorts values (map (λ v. v.sort) (variables program goal))

-- no values for its variables meet what it assumes and not what it concludes
abbrev pub GoalHolds : Program → Outline → Goal → Type 0
GoalHolds program outline goal = (values : List Value) → AreValuesOf program goal values → failed program outline goal values ≡ false
