-- Part of the claim: docs/CLAIM.md.
-- The stores in which a program may start.
use Rattle.std.specs.Prelude.{List, [], ◌++◌, flat_map, Option, None, Some, slice_get, IsTrue}
use Rattle.civl_bits.specs.declared.value.Value.{Value}
use Rattle.civl_tree.specs.declared.program.Proc.{Proc}
use Rattle.civl_tree.specs.declared.program.Thread.{Thread}
use Rattle.civl_tree.specs.declared.program.Program.{Program}
use Rattle.std.specs.Prelude.{ℕ}
use Rattle.civl_firing.specs.declared.store.Store.{Store}
use Rattle.civl_firing.specs.values.Values.{is_true}
use Rattle.civl_firing.specs.Stores.{IsStore}
use Rattle.civl_firing.specs.Eval.{value_of, values_of}
use Rattle.civl_firing.specs.Scope.{global_values}
use Rattle.civl_meaning.specs.Meaning.{proc_number}
use Rattle.civl_meaning.specs.Permissions.{pairwise_disjoint, of_globals, of_params}

abbrev pub of_args : Option Proc → List Value → List (List ℕ)
of_args None args = []
of_args (Some proc) args = of_params proc.params args

-- the permissions of each linear argument of a declared thread
abbrev pub of_thread : Program → Store → Thread → List (List ℕ)
of_thread program store thread =
    of_args (slice_get program.procs (proc_number program thread.callee)) (values_of (global_values program.globals store) thread.args)

-- those of each linear global and of each linear thread argument
abbrev pub initial_permissions : Program → Store → List (List ℕ)
initial_permissions program store = of_globals program.globals store.values ++ flat_map (of_thread program store) program.threads

-- a store is initial where it has a value of its sort for every global, `init` holds in it, and the permissions of the
-- linear globals and of the linear thread arguments are pairwise disjoint
pub record IsInitial (program : Program) (store : Store) : Type 0 where
  pub store_fits : IsStore program.globals store
  pub init_holds : IsTrue (is_true (value_of (global_values program.globals store) program.init))
  pub disjoint : IsTrue (pairwise_disjoint (initial_permissions program store))
