-- What a failing interleaving of a layer's program is turned into. (Lipton, Reduction: a method of proving properties of
-- parallel programs, 1975; of layers: Hawblitzel, Petrank, Qadeer, Tasiran, CAV 2015.)
use Rattle.std.specs.Prelude.{ℕ, ◌≡◌, ◌≤◌, true, List, length, IsTrue, All, ◌⊎◌}
use Rattle.civl_tree.specs.declared.program.Program.{Program}
use Rattle.civl_firing.specs.declared.store.Store.{Store}
use Rattle.civl_meaning.specs.declared.config.Move.{Move}
use Rattle.civl_meaning.specs.declared.config.Config.{Config}
use Rattle.civl_meaning.specs.Step.{start}
use Rattle.civl_meaning.specs.Run.{RunsTo}
use Rattle.civl_meaning.specs.Failing.{is_failing, IsMove}
use Rattle.civl_meaning.specs.Layers.{program_at}
use Rattle.civl_reduction.specs.interleavings.Runs.{IsBlockRun}
use Rattle.civl_reduction.specs.interleavings.Reduction.{Late}
use Rattle.civl_reduction.specs.blocks.Challenged.{challenged}
use Rattle.civl_reduction.specs.gathering.Gathered.{blocks}
use Rattle.civl_reduction.specs.gathered.System.{layer_run, place_at}
use Rattle.civl_reduction.specs.gathered.Offered.{AreOffered}
use Rattle.civl_blocked.specs.declared.blocked.Blocked.{Blocked}
use Rattle.civl_blocked.specs.declared.blocked.Blocked.TheVariants.{Run, Spent}

-- moves that run from the program's start in this store to a failing configuration
abbrev pub Fails : Program → ℕ → Store → List Move → Type 0
Fails program layer store moves =
    (end : Config) × RunsTo (program_at program layer) moves (start (program_at program layer) store) end × IsTrue (is_failing (program_at program layer) end)

-- a block run whose end fails or is challenged, with no more blocks than there were moves
pub record IsTurned (program : Program) (layer : ℕ) (store : Store) (given moves : List Move) : Type 0 where
  pub end : Config
  pub are_moves : All IsMove moves
  pub runs : IsBlockRun (layer_run program layer store) moves end
  pub fails : IsTrue (is_failing (program_at program layer) end) ⊎ (challenged program layer store moves ≡ true)
  pub few : blocks (layer_run program layer store) moves (start (program_at program layer) store) ≤ length given

-- moves that run to a failing configuration in which the thread with this number stands late in a block that so many steps of
-- it alone, with offered choices, don't end
pub record IsUnended (program : Program) (layer : ℕ) (store : Store) (bound t : ℕ) (moves : List Move) : Type 0 where
  pub end : Config
  pub are_moves : All IsMove moves
  pub runs : RunsTo (program_at program layer) moves (start (program_at program layer) store) end
  pub fails : IsTrue (is_failing (program_at program layer) end)
  pub late : place_at program layer end t ≡ Late
  pub steps : List Move
  pub many : length steps ≡ bound
  pub after : Config
  pub offered : AreOffered program layer store t steps end after

abbrev pub IsBlocked : Program → ℕ → Store → ℕ → List Move → Blocked → Type 0
IsBlocked program layer store bound given (Run moves) = IsTurned program layer store given moves
IsBlocked program layer store bound given (Spent t moves) = IsUnended program layer store bound t moves
