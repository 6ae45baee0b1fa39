-- What a schedule of an accepted program is lifted to. (Reduction: Lipton, Reduction: a method of proving properties of parallel
-- programs, 1975; of layers: Hawblitzel, Petrank, Qadeer, Tasiran, CAV 2015; Kragl, Qadeer, CAV 2018.)
use Rattle.std.specs.Prelude.{◌≡◌, ℕ, ◌≤◌, List, length, All, Some}
use Rattle.civl_tree.specs.declared.program.Program.{Program}
use Rattle.civl_tree.specs.declared.script.Script.{Script}
use Rattle.civl_firing.specs.declared.store.Store.{Store}
use Rattle.civl_meaning.specs.declared.config.Move.{Move}
use Rattle.civl_meaning.specs.declared.config.Config.{Config}
use Rattle.civl_meaning.specs.Failing.{failing_thread, IsMove}
use Rattle.civl_meaning.specs.Initial.{IsInitial}
use Rattle.civl_meaning.specs.Layers.{lowest, topmost}
use Rattle.civl_meaning.specs.Run.{RunsTo}
use Rattle.civl_meaning.specs.Step.{start}
use Rattle.civl_script.specs.Schedules.{IsSchedule}
use Rattle.civl_script.specs.declared.schedule.Schedule.TheVariants.{Fits}
use Rattle.civl_conditions.specs.Violated.{AllHold}
use Rattle.civl_verdicts.specs.Verdicts.{HasInitial}
use Rattle.civl_lifting.specs.Lifted.{FailsBy, IsLifted}
use Rattle.civl_lifting.specs.declared.lifted.Lifted.TheVariants.{Spent}
use Rattle.civl_frontend.specs.Rules.{IsTaken}

-- how many further steps of a thread alone are to end its block
abbrev pub step_bound : ℕ
step_bound = 1000000

-- The program breaks no static rule, no formula of it weighs too much, some store is initial, and all its conditions hold.
pub record IsAccepted (program : Program) : Type 0 where
  pub taken : IsTaken program
  pub initial : HasInitial program
  pub hold : AllHold program

-- The program of the script is accepted, and its entries and steps are this store and these moves.
pub record IsGiven (script : Script) (store : Store) (moves : List Move) : Type 0 where
  pub accepted : IsAccepted script.program
  pub fits : IsSchedule script.program.globals script.store script.moves (Fits store moves)

-- The store is initial, and from it the moves run in the lowest program to a failing configuration.
pub record CanBeLifted (program : Program) (store : Store) (moves : List Move) : Type 0 where
  pub initial : IsInitial program store
  pub fails : FailsBy (lowest program) store moves

-- From the store these moves, whose choices are values, run in the topmost program to a failing configuration, in which this is the least
-- thread that fails. There are no more of them than were given.
pub record FailsAtTop (program : Program) (store : Store) (given moves : List Move) (thread : ℕ) : Type 0 where
  pub are_moves : All IsMove moves
  pub end : Config
  pub runs : RunsTo (topmost program) moves (start (topmost program) store) end
  pub least : failing_thread (topmost program) end ≡ Some thread
  pub few : length moves ≤ length given

-- Some moves run from the store in the program below a step between layers to a failing configuration, in which this thread stands late in
-- a block that its next steps alone, with offered choices, don't end.
pub record LeavesBlock (program : Program) (store : Store) (given : List Move) (step thread : ℕ) : Type 0 where
  pub moves : List Move
  pub unended : IsLifted program store step_bound given (Spent step thread moves)
