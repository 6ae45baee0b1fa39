-- A story ends in what is lost.
use Rattle.std.specs.Prelude.{◌≡◌, true, List, Some}
use Rattle.civl_bits.specs.declared.value.Value.{Value}
use Rattle.civl_tree.specs.declared.program.Program.{Program}
use Rattle.civl_conditions.specs.declared.condition.Condition.{Condition}
use Rattle.civl_losses.specs.declared.loss.Loss.{Loss}
use Rattle.civl_losses.specs.Losses.{loss}
use Rattle.civl_lines.specs.Losing.{tell_loss}
use Rattle.civl_path_stories.specs.Paths.{path_story}

-- the story of what is lost on a path has a line that says where
abbrev pub LossesTellLosses : Type 0
LossesTellLosses =
    (program : Program) (condition : Condition) (values : List Value) (lost : Loss) →
    loss program condition values ≡ Some lost → tell_loss (path_story program condition values lost) ≡ true
