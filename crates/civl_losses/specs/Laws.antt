-- A loss is told exactly where values violate a condition on a path.
use Rattle.std.specs.Prelude.{◌≡◌, Bool, true, false, List, is_some}
use Rattle.civl_bits.specs.declared.value.Value.{Value}
use Rattle.civl_tree.specs.declared.program.Program.{Program}
use Rattle.civl_conditions.specs.declared.condition.Condition.{Condition}
use Rattle.civl_conditions.specs.declared.condition.Condition.TheVariants.{Path, Block}
use Rattle.civl_conditions.specs.Violated.{violated}
use Rattle.civl_losses.specs.Losses.{loss}

-- a condition on a path
abbrev pub is_of_path : Condition → Bool
is_of_path (Path part step q c) = true
is_of_path (Block step q c target) = true
is_of_path _ = false

abbrev pub LossesAreTold : Type 0
LossesAreTold =
    (program : Program) (condition : Condition) (values : List Value) →
    is_of_path condition ≡ true → is_some (loss program condition values) ≡ violated program condition values
