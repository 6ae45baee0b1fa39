-- The reduction of a layer's program to runs block by block, where all conditions hold. (Lipton, Reduction: a method of proving
-- properties of parallel programs, 1975; of layers: Hawblitzel, Petrank, Qadeer, Tasiran, CAV 2015; Kragl, Qadeer, CAV 2018.)
use Rattle.std.specs.Prelude.{ℕ}
use Rattle.civl_tree.specs.declared.program.Program.{Program}
use Rattle.civl_firing.specs.declared.store.Store.{Store}
use Rattle.civl_reduction.specs.checked.Checked.{IsChecked}
use Rattle.civl_reduction.specs.blocks.Reduces.{EndsInside, Reduces}
use Rattle.civl_reduction.specs.blocks.Challenged.{challenged}

-- in a program that keeps the rules and all of whose conditions hold, the steps of a block that is open behind a block run that
-- isn't challenged come to an end
abbrev pub CheckedEndInside : Type 0
CheckedEndInside = (program : Program) (layer : ℕ) (store : Store) → IsChecked program layer store → EndsInside program layer store (challenged program layer store)

-- and if an interleaving of the program of a layer below the top fails from an initial store, some block run of it from there
-- ends failing or challenged
abbrev pub CheckedProgramsReduce : Type 0
CheckedProgramsReduce = (program : Program) (layer : ℕ) (store : Store) → IsChecked program layer store → Reduces program layer store (challenged program layer store)
