-- The invariants of a step in a store (Owicki and Gries, An axiomatic proof technique for parallel programs, 1976), and
-- when values violate the condition that initial stores meet them.
use Rattle.std.specs.Prelude.{ℕ, Bool, false, not, ◌&&◌, Option, slice_get}
use Rattle.std.specs.List.{list_all}
use Rattle.std.specs.Option.{option_map_or}
use Rattle.civl_firing.specs.values.Values.{is_true}
use Rattle.civl_tree.specs.declared.expr.Expr.{Expr}
use Rattle.civl_tree.specs.declared.program.Program.{Program}
use Rattle.civl_firing.specs.declared.store.Store.{Store}
use Rattle.civl_firing.specs.declared.scope.Scope.{Scope}
use Rattle.civl_firing.specs.Eval.{value_of}
use Rattle.civl_firing.specs.Scope.{global_values}
use Rattle.civl_meaning.specs.Permissions.{pairwise_disjoint}
use Rattle.civl_meaning.specs.Initial.{initial_permissions}
use Rattle.civl_conditions.specs.Steps.{step_invariants}

abbrev pub holds_in : Scope → Expr → Bool
holds_in scope e = is_true (value_of scope e)

-- the i-th invariant of the step
abbrev pub invariant_at : Program → ℕ → ℕ → Option Expr
invariant_at program step i = slice_get (step_invariants program step) i

abbrev pub holds_of_globals : Program → Store → Expr → Bool
holds_of_globals program g e = holds_in (global_values program.globals g) e

-- the i-th invariant of the step doesn't hold in this store
abbrev pub invariant_lost : Program → ℕ → ℕ → Store → Bool
invariant_lost program step i g = option_map_or (λ e. not (holds_of_globals program g e)) (invariant_at program step i) false

abbrev pub invariants_hold : Program → ℕ → Store → Bool
invariants_hold program step g = list_all (holds_of_globals program g) (step_invariants program step)

-- `init` holds, and the permissions of the linear globals and of the linear thread arguments are pairwise disjoint
abbrev pub meets_init : Program → Store → Bool
meets_init program g = holds_of_globals program g program.init && pairwise_disjoint (initial_permissions program g)

-- K1: an initial store that doesn't meet the invariant
abbrev pub start_fails : Program → ℕ → ℕ → Store → Bool
start_fails program step i g = meets_init program g && invariant_lost program step i g
