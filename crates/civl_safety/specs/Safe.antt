-- What an outline is good for: no run of the topmost program fails, and where all conditions of the program hold, no interleaving of
-- the lowest program does. (Proof outlines and freedom from interference: Owicki and Gries, 1976; layered refinement: Hawblitzel,
-- Petrank, Qadeer, Tasiran, CAV 2015; Kragl, Qadeer, CAV 2018.)
use Rattle.civl_tree.specs.declared.program.Program.{Program}
use Rattle.civl_outlines.specs.declared.outline.Outline.{Outline}
use Rattle.civl_firing.specs.declared.store.Store.{Store}
use Rattle.civl_meaning.specs.Failing.{CanFail}
use Rattle.civl_meaning.specs.Initial.{IsInitial}
use Rattle.civl_meaning.specs.Layers.{lowest, topmost}
use Rattle.civl_reduction.specs.simulation.Followed.{IsAccepted}
use Rattle.civl_safety.specs.Outlined.{IsOutlined, IsProved}

-- no run of the topmost program from an initial store fails
abbrev pub TopIsSafe : Type 0
TopIsSafe = (program : Program) (outline : Outline) (store : Store) → IsProved program outline store → CanFail (topmost program) store → ⊥

-- where all conditions hold, no interleaving of the lowest program from an initial store does
abbrev pub LowestIsSafe : Type 0
LowestIsSafe = (program : Program) (outline : Outline) (store : Store) → IsAccepted program → IsOutlined program outline → IsInitial program store → CanFail (lowest program) store → ⊥
