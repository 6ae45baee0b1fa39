-- What acceptance comes to: a program that the grammar can write and that keeps the rules, all of whose conditions hold, fails at
-- the top from every initial store from which it fails at the bottom. (Layered refinement: Hawblitzel, Petrank, Qadeer, Tasiran,
-- CAV 2015; Kragl, Qadeer, CAV 2018.)
use Rattle.std.specs.Prelude.{ℕ, ◌+◌}
use Rattle.civl_tree.specs.declared.program.Program.{Program}
use Rattle.civl_firing.specs.declared.store.Store.{Store}
use Rattle.civl_meaning.specs.Failing.{CanFail}
use Rattle.civl_meaning.specs.Initial.{IsInitial}
use Rattle.civl_meaning.specs.Layers.{program_at}
use Rattle.civl_meaning.specs.Preserves.{Preserves}
use Rattle.civl_reduction.specs.checked.Checked.{IsChecked}
use Rattle.civl_reduction.specs.simulation.Sound.{BlocksAreSound}
use Rattle.civl_reduction.specs.simulation.Followed.{IsAccepted}

-- the blocks of a layer's procedures don't fail, they end, and each is no step of the layer's program or one of the refined action
abbrev pub CheckedBlocksAreSound : Type 0
CheckedBlocksAreSound = (program : Program) (layer : ℕ) (store : Store) → IsChecked program layer store → BlocksAreSound program layer store

-- so the program of the next layer can fail where that of a layer can
abbrev pub CheckedLayersPreserve : Type 0
CheckedLayersPreserve = (program : Program) (layer : ℕ) (store : Store) → IsChecked program layer store → CanFail (program_at program layer) store → CanFail (program_at program (layer + 1)) store

-- and accepted programs preserve failures
abbrev pub AcceptedProgramsPreserve : Type 0
AcceptedProgramsPreserve = (program : Program) → IsAccepted program → (initial : (store : Store) × IsInitial program store) → Preserves program
