-- A story ends in what is lost.
use Rattle.std.specs.Prelude.{◌≡◌, true, List, Some}
use Rattle.civl_bits.specs.declared.value.Value.{Value}
use Rattle.civl_tree.specs.declared.program.Program.{Program}
use Rattle.civl_conditions.specs.declared.condition.Condition.{Condition}
use Rattle.civl_clashes.specs.declared.violations.Violation.{Violation}
use Rattle.civl_clashes.specs.Told.{violation}
use Rattle.civl_lines.specs.Losing.{tell_loss}
use Rattle.civl_action_stories.specs.Told.{violation_story}

-- the story of what values violate a condition by has a line that says where something is lost
abbrev pub ViolationsTellLosses : Type 0
ViolationsTellLosses =
    (program : Program) (condition : Condition) (values : List Value) (v : Violation) →
    violation program condition values ≡ Some v → tell_loss (violation_story program condition values v) ≡ true
