-- What the conditions that hold say of stores, one behind the other: the invariants of a step hold at the start, and an action
-- or a block of one thread keeps them, and what other threads rely on at their yields. (Interference freedom: Owicki, Gries,
-- An axiomatic proof technique for parallel programs, 1976; rely and guarantee: Jones, 1983; with linear permissions: Kragl,
-- Qadeer, Layered concurrent programs, CAV 2018.)
use Rattle.std.specs.Prelude.{ℕ, ◌≤◌, ◌≡◌, List, ◌++◌, Some, IsTrue}
use Rattle.civl_bits.specs.declared.value.Value.{Value}
use Rattle.civl_firing.specs.values.Values.{HaveSorts}
use Rattle.civl_tree.specs.declared.program.Proc.{Proc}
use Rattle.civl_tree.specs.declared.program.Program.{Program}
use Rattle.civl_firing.specs.declared.store.Store.{Store}
use Rattle.civl_firing.specs.Stores.{IsStore}
use Rattle.civl_meaning.specs.Permissions.{pairwise_disjoint}
use Rattle.civl_meaning.specs.Initial.{IsInitial}
use Rattle.civl_layers.specs.declared.cut.Cut.{Cut}
use Rattle.civl_layers.specs.Layered.{IsLayered}
use Rattle.civl_conditions.specs.paths.Paths.{progress_of}
use Rattle.civl_conditions.specs.paths.Ends.{is_yield_cut, arrived, ends_block}
use Rattle.civl_conditions.specs.Steps.{lasts_through}
use Rattle.civl_conditions.specs.Values.{Invoked, Begun}
use Rattle.civl_conditions.specs.Permissions.{in_store, of_inputs, held_at, of_held}
use Rattle.civl_conditions.specs.Invariants.{invariants_hold}
use Rattle.civl_conditions.specs.Movers.{gate_of, fires_of}
use Rattle.civl_conditions.specs.Assumed.{owned, assumed}
use Rattle.civl_conditions.specs.Parts.{outcome_of}
use Rattle.civl_conditions.specs.Targets.{Other, yield_holds}
use Rattle.civl_conditions.specs.Violated.{AllHold}
use Rattle.civl_condition_laws.specs.States.{IsInvoked, frame_sorts, IsBegun, IsCutOf}

-- the frame of another thread stands at the yield with this number, in the procedure with this number, with values of its sorts
pub record Pauses (program : Program) (step r y : ℕ) (proc : Proc) (cut : Cut) (other : Other) : Type 0 where
  pub at : IsCutOf program step r y proc cut
  pub yields : IsTrue (is_yield_cut cut.kind)
  pub locals : HaveSorts other.locals (frame_sorts proc)

-- from one store to the other, by what owns these permissions: the invariants of the step hold in the second; and where the
-- invariant of a yield held for a frame that owns none of them, it holds still
pub record IsSteady (program : Program) (step : ℕ) (owns : List (List ℕ)) (before after : Store) : Type 0 where
  pub invariants : IsTrue (pairwise_disjoint owns) → IsTrue (invariants_hold program step after)
  pub yields : (r y : ℕ) (proc : Proc) (cut : Cut) (other : Other) → Pauses program step r y proc cut other
      → IsTrue (pairwise_disjoint (owns ++ of_held (held_at program proc y) other.locals)) → IsTrue (yield_holds program proc cut other before) → IsTrue (yield_holds program proc cut other after)

-- a layered program all of whose conditions hold, and a step of it
pub record HoldsAt (program : Program) (step : ℕ) : Type 0 where
  pub layered : IsLayered program
  pub hold : AllHold program
  pub low : 1 ≤ step
  pub high : step ≤ program.layers

-- K1: the invariants of the step hold in initial stores
abbrev pub InvariantsBegin : Type 0
InvariantsBegin = (program : Program) (step : ℕ) (store : Store) → HoldsAt program step → IsInitial program store → IsTrue (invariants_hold program step store)

-- K11: an action that is in both programs of the step, where it fires
abbrev pub ActionsAreSteady : Type 0
ActionsAreSteady =
    (program : Program) (step number : ℕ) (store : Store) (x : Invoked) (after : Store × List Value) → HoldsAt program step
    → IsStore program.globals store → IsInvoked program number x → IsTrue (lasts_through step x.action)
    → IsTrue (invariants_hold program step store) → IsTrue (gate_of program store x) → fires_of program store x ≡ Some after
    → IsSteady program step (in_store program store ++ of_inputs x) store after.0

-- K10: a block of a procedure of the step's layer, on a path from one of its cuts, from the store at the block's beginning
abbrev pub BlocksAreSteady : Type 0
BlocksAreSteady =
    (program : Program) (step q c : ℕ) (proc : Proc) (cut : Cut) (b : Begun) (end : ℕ) → HoldsAt program step
    → IsCutOf program step q c proc cut → IsBegun program step proc cut b → IsTrue (assumed program step proc c cut b)
    → arrived proc (outcome_of program step proc cut b) ≡ Some end → IsTrue (ends_block proc end)
    → IsSteady program step (owned program proc c b) b.old (progress_of (outcome_of program step proc cut b)).store
