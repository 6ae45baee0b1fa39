-- Which way the action of a call moves: past the steps of other threads on its right, or on its left (Lipton, Reduction:
-- a method of proving properties of parallel programs, CACM 1975). The movers of a block are right movers up to its
-- turning point, and left movers from there on.
use Rattle.std.specs.Prelude.{ℕ, Bool, not, Option, None, Some}
use Rattle.civl_tree.specs.declared.name.Name.{Name}
use Rattle.civl_tree.specs.declared.action.Mover.{Mover}
use Rattle.civl_tree.specs.declared.action.Mover.TheVariants.{Atomic, Right, Left, Both}
use Rattle.civl_tree.specs.declared.action.Action.{Action}
use Rattle.civl_tree.specs.declared.program.Refines.{Refines}
use Rattle.civl_tree.specs.declared.program.Proc.{Proc}
use Rattle.civl_tree.specs.declared.program.Program.{Program}
use Rattle.civl_tree.specs.rules.Names.{action_named, proc_named}
use Rattle.civl_layers.specs.Movers.{is_right}

-- the action that a procedure refines; a root refines none
abbrev pub refined_action : Program → Option Refines → Option Action
refined_action program None = None
refined_action program (Some refines) = action_named program refines.action

-- the action that a procedure stands for in the programs above its layer
abbrev pub proc_action : Program → Option Proc → Option Action
proc_action program None = None
proc_action program (Some proc) = refined_action program proc.refines

abbrev pub first_action : Option Action → Option Action → Option Action
first_action None second = second
first_action (Some action) second = Some action

-- the action that a call of this name in a layered procedure means, just below the procedure's layer: the action of this
-- name, else the one that the procedure of this name refines
abbrev pub called_action : Program → Name → Option Action
called_action program name = first_action (action_named program name) (proc_action program (proc_named program name))

-- a call of it is the turning point of its block, or comes behind it: it is no right mover
abbrev pub turns : Mover → Bool
turns mover = not (is_right mover)

-- the ways in which an action moves, as bits: 1 for right, 2 for left
abbrev pub kinds : Mover → ℕ
kinds Atomic = 0
kinds Right = 1
kinds Left = 2
kinds Both = 3
