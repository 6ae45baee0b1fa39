-- Checked programs reduce to block runs. (Lipton, Reduction: a method of proving properties of parallel programs, 1975; of
-- layers: Hawblitzel, Petrank, Qadeer, Tasiran, CAV 2015.)
use Rattle.std.specs.Prelude.{ℕ}
use Rattle.civl_tree.specs.declared.program.Program.{Program}
use Rattle.civl_firing.specs.declared.store.Store.{Store}
use Rattle.civl_reduction.specs.checked.Checked.{IsChecked}
use Rattle.civl_reduction.specs.blocks.Reduces.{Challenged, Reduces, SafeInside, EndsInside}

-- in a program that keeps the rules and whose conditions hold: if no thread fails inside a block that stands behind a block
-- run, and its late steps come to an end there, then a failing interleaving of a layer's program gives a block run that ends
-- failing or challenged
abbrev pub CheckedReduce : Type 0
CheckedReduce =
    (program : Program) (layer : ℕ) (store : Store) (challenged : Challenged) → IsChecked program layer store
    → (safe_inside : SafeInside program layer store challenged) → (ends_inside : EndsInside program layer store challenged)
    → Reduces program layer store challenged
