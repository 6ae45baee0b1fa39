-- All that is worked out of a program, whatever the condition.
use Rattle.std.specs.Prelude.{ℕ, [], Option, None, Some}
use Rattle.std.specs.List.{AllZip}
use Rattle.civl_tree.specs.declared.program.Refines.{Refines}
use Rattle.civl_tree.specs.declared.program.Proc.{Proc}
use Rattle.civl_tree.specs.declared.program.Program.{Program}
use Rattle.civl_layers.specs.Cuts.{proc_cuts}
use Rattle.civl_conditions.specs.declared.condition.Target.{Target}
use Rattle.civl_conditions.specs.Variables.{of_globals, other_variables}
use Rattle.civl_conditions.specs.Weights.{bits_of_variables, linear_globals, initial_own, target_weight, target_items, together}
use Rattle.civl_weighing.specs.declared.weight.Weight.{Weight}
use Rattle.civl_weights.specs.declared.sums.tables.ProcSums.{ProcSums}
use Rattle.civl_weights.specs.declared.sums.tables.Tables.{Tables}
use Rattle.civl_weights.specs.declared.sums.targets.TargetSums.{TargetSums}
use Rattle.civl_weighing.specs.Weighing.{Weighs}
use Rattle.civl_weights.specs.sums.Sums.{OfAction, OfNotes, OfCuts}

-- the step of a procedure's layer
abbrev pub own_step : Option Refines → ℕ
own_step None = 0
own_step (Some r) = r.layer

-- these are the sums of a procedure, at their step
pub record OfProc (program : Program) (proc : Proc) (sums : ProcSums) : Type 0 where
  pub notes : OfNotes program proc sums.notes
  pub cuts : OfCuts program sums.step proc 0 (proc_cuts proc) sums.cuts

pub record OfProgram (program : Program) (sums : Tables) : Type 0 where
  pub bits : Weighs sums.bits (bits_of_variables (of_globals [] program.globals))
  pub globals : Weighs sums.globals (linear_globals program)
  pub initial : Weighs sums.initial (initial_own program)
  pub actions : AllZip (OfAction program) program.actions sums.actions
  pub procs : AllZip (OfProc program) program.procs sums.procs

-- the weight of a target, the items that the frame there holds, and the bits of that frame
pub record OfTarget (program : Program) (step : ℕ) (target : Target) (sums : TargetSums) : Type 0 where
  pub weight : Weighs sums.weight (target_weight program step target)
  pub items : Weighs sums.items (target_items program target)
  pub frame : Weighs sums.frame (bits_of_variables (other_variables program target))

-- it is what so many items and those of the target weigh together
pub record IsTogether (program : Program) (items : Weight) (target : Target) (w : Weight) : Type 0 where
  pub is : (n : ℕ) → Weighs items n → Weighs w (together program n target)
