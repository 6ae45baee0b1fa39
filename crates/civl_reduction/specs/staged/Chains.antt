-- The gate of a refined action along a block that changes no global of the next layer's program: it stays as it was.
-- (Stuttering steps of a refinement: Lamport, What good is temporal logic, 1983; Kragl, Qadeer, CAV 2018.)
use Rattle.std.specs.Prelude.{ℕ, ◌≡◌, true, List}
use Rattle.civl_bits.specs.declared.value.Value.{Value}
use Rattle.civl_tree.specs.declared.program.Proc.{Proc}
use Rattle.civl_tree.specs.declared.program.Program.{Program}
use Rattle.civl_firing.specs.declared.store.Store.{Store}
use Rattle.civl_firing.specs.Stores.{IsStore}
use Rattle.civl_layers.specs.Layered.{IsLayered}
use Rattle.civl_conditions.specs.footprints.Agreement.{exists_at}
use Rattle.civl_conditions.specs.paths.Seen.{IsProcOf}
use Rattle.civl_conditions.specs.Values.{same_stores}
use Rattle.civl_reduction.specs.blocks.Challenged.{allows}

-- in two stores with the same values for the globals that exist in a procedure's layer the action that it refines is allowed alike
abbrev pub GatesStay : Type 0
GatesStay =
    (program : Program) (number step : ℕ) (proc : Proc) (before after : Store) (locals : List Value) → IsLayered program → IsProcOf program number step proc
    → IsStore program.globals before → IsStore program.globals after → same_stores (exists_at step) program after before ≡ true → allows program after proc locals ≡ allows program before proc locals
