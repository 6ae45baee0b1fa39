-- Which stores are initial.
use Rattle.std.proofs.Common.{◌≡◌, Bool, true, false, ◌&&◌}
use Rattle.std.proofs.lemmas.Bool.{and_parts}
use Rattle.civl_tree.specs.declared.program.Program.{Program}
use Rattle.civl_firing.specs.Stores.{IsStore}
use Rattle.civl_firing.specs.declared.store.Store.{Store}
use Rattle.civl_meaning.specs.Initial.{IsInitial, initial_permissions}
use Rattle.civl_meaning.specs.Permissions.{pairwise_disjoint}
use Rattle.civl_conditions.specs.Invariants.{meets_init, holds_of_globals}

either : (a b : Bool) → (a && b) ≡ false → a ≡ true → b ≡ true → ⊥
either true true e p q = cc
either true false e p q = cc
either false b e p q = cc

pub initial_of : (program : Program) (store : Store) → IsStore program.globals store → meets_init program store ≡ true → IsInitial program store
initial_of program store fits e =
    let h = and_parts (holds_of_globals program store program.init) (pairwise_disjoint (initial_permissions program store)) e in
    record { store_fits = fits; init_holds = h.0; disjoint = h.1 }

pub not_initial_of : (program : Program) (store : Store) → meets_init program store ≡ false → IsInitial program store → ⊥
not_initial_of program store e i = either (holds_of_globals program store program.init) (pairwise_disjoint (initial_permissions program store)) e i.init_holds i.disjoint
