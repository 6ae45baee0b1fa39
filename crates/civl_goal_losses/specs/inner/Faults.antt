-- What fails in a frame of a procedure.
use Rattle.std.specs.Prelude.{List, Option, None, Some, if◌then◌else◌}
use Rattle.civl_bits.specs.declared.value.Value.{Value}
use Rattle.civl_tree.specs.declared.expr.Expr.{Expr}
use Rattle.civl_tree.specs.declared.program.Proc.{Proc}
use Rattle.civl_tree.specs.declared.program.Program.{Program}
use Rattle.civl_firing.specs.declared.store.Store.{Store}
use Rattle.civl_meaning.specs.declared.config.Activation.{Activation}
use Rattle.civl_meaning.specs.Change.{is_true_in, spot_doing}
use Rattle.civl_meaning.specs.Layers.{topmost}
use Rattle.civl_meaning.specs.Places.{spot_at}
use Rattle.civl_goal_losses.specs.declared.losses.Fault.{Fault}
use Rattle.civl_goal_losses.specs.declared.losses.Fault.TheVariants.{FalseAssert}
use Rattle.civl_goal_losses.specs.GoalLosses.{fault}

abbrev pub assert_fault : Program → Proc → List Value → Expr → Option Fault
assert_fault program proc locals e = if is_true_in (topmost program) proc locals e then None else Some FalseAssert

abbrev pub proc_fault : Program → Store → Activation → Proc → Option Fault
proc_fault program g frame proc = fault program g (spot_doing (topmost program) None frame proc (spot_at proc.body frame.place))
