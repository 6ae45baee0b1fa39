-- What a failing interleaving of the lowest program becomes. (Reduction: Lipton, Reduction: a method of proving properties of
-- parallel programs, 1975; of layers: Hawblitzel, Petrank, Qadeer, Tasiran, CAV 2015; Kragl, Qadeer, CAV 2018.)
use Rattle.std.specs.Prelude.{ℕ, ◌≤◌, ◌-◌, List, length, IsTrue, All}
use Rattle.civl_tree.specs.declared.program.Program.{Program}
use Rattle.civl_firing.specs.declared.store.Store.{Store}
use Rattle.civl_meaning.specs.declared.config.Move.{Move}
use Rattle.civl_meaning.specs.declared.config.Plain.{Plain}
use Rattle.civl_meaning.specs.declared.config.Config.{Config}
use Rattle.civl_meaning.specs.Failing.{is_failing, IsMove}
use Rattle.civl_meaning.specs.Layers.{topmost}
use Rattle.civl_meaning.specs.Run.{RunsTo}
use Rattle.civl_meaning.specs.Step.{start}
use Rattle.civl_blocked.specs.Blocked.{IsUnended}
use Rattle.civl_lifting.specs.declared.lifted.Lifted.{Lifted}
use Rattle.civl_lifting.specs.declared.lifted.Lifted.TheVariants.{Fails, Spent}

-- moves, whose choices are values, that run from the program's start in this store to a failing configuration
pub record FailsBy (plain : Plain) (store : Store) (moves : List Move) : Type 0 where
  pub are_moves : All IsMove moves
  pub end : Config
  pub runs : RunsTo plain moves (start plain store) end
  pub fails : IsTrue (is_failing plain end)

-- the topmost program fails by no more moves than were given; or the program below a step does by moves that leave a block
-- unfinished, which so many steps of its thread don't end
abbrev pub IsLifted : Program → Store → ℕ → List Move → Lifted → Type 0
IsLifted program store bound given (Fails moves) = FailsBy (topmost program) store moves × (length moves ≤ length given)
IsLifted program store bound given (Spent step t moves) = (1 ≤ step) × (step ≤ program.layers) × IsUnended program (step - 1) store bound t moves
