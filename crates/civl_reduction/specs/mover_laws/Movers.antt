-- What the conditions on movers say of whole stores: two calls of actions of one layer may be exchanged, and one leaves the
-- other's gate. (Movers: Lipton, Reduction: a method of proving properties of parallel programs, 1975; of gated atomic
-- actions: Hawblitzel, Petrank, Qadeer, Tasiran, CAV 2015.)
use Rattle.std.specs.Prelude.{ℕ, ◌+◌, ◌≤◌, ◌≡◌, Bool, true, false, List, map, Some, slice_get, IsTrue}
use Rattle.civl_bits.specs.declared.value.Value.{Value}
use Rattle.civl_firing.specs.values.Values.{HaveSorts}
use Rattle.civl_tree.specs.declared.action.Mover.{Mover}
use Rattle.civl_tree.specs.declared.program.Program.{Program}
use Rattle.civl_tree.specs.rules.Uses.{param_sorts}
use Rattle.civl_firing.specs.declared.store.Store.{Store}
use Rattle.civl_firing.specs.Stores.{IsStore}
use Rattle.civl_firing.specs.Fired.{choices_fit, fires, offers}
use Rattle.civl_layers.specs.Ranges.{exists_in}
use Rattle.civl_layers.specs.Names.{action_range}
use Rattle.civl_layers.specs.Layered.{IsLayered}
use Rattle.civl_conditions.specs.Steps.{begins_below, meet_below}
use Rattle.civl_layers.specs.Movers.{is_left, is_right}
use Rattle.civl_conditions.specs.Values.{Invoked}
use Rattle.civl_conditions.specs.Movers.{apart, gate_of, pair_fails, waits}
use Rattle.civl_reduction.specs.exchanges.Exchange.{ActionsSwap}

-- ---- what is asked

-- the action with this number, with inputs and choices of its sorts
pub record IsInvoked (program : Program) (number : ℕ) (x : Invoked) : Type 0 where
  pub action : slice_get program.actions number ≡ Some x.action
  pub inputs : HaveSorts x.inputs (param_sorts x.action.params)
  pub chosen : HaveSorts x.chosen (map (λ c. c.sort) x.action.choices)

-- the condition of this number on two actions, of which the first is such a mover, holds in all stores with all values of
-- their sorts, at the first step at which both actions are there, where that goes from this layer or a lower one
abbrev pub PairHolds : Program → ℕ → ℕ → (Mover → Bool) → Type 0
PairHolds program layer number is_mover =
    (step i j : ℕ) (store : Store) (x y : Invoked) → step ≤ layer + 1 → IsStore program.globals store → IsInvoked program i x → IsInvoked program j y
    → IsTrue (is_mover x.action.mover) → IsTrue (meet_below step x.action y.action) → pair_fails program number step store x y ≡ false

-- K3 to K8, in their order, up to the step from this layer
pub record MoversHold (program : Program) (layer : ℕ) : Type 0 where
  pub right_swaps : PairHolds program layer 3 is_right
  pub right_keeps : PairHolds program layer 4 is_right
  pub left_swaps : PairHolds program layer 5 is_left
  pub left_kept : PairHolds program layer 6 is_left
  pub left_breaks : PairHolds program layer 7 is_left
  pub left_fires :
      (step i : ℕ) (store : Store) (x : Invoked) → step ≤ layer + 1 → IsStore program.globals store → IsInvoked program i x
      → IsTrue (is_left x.action.mover) → IsTrue (begins_below step x.action) → waits program store x ≡ false

-- ---- what follows

-- an action that exists in this layer, with inputs and choices of its sorts
pub record IsAt (program : Program) (layer : ℕ) (x : Invoked) : Type 0 where
  pub number : ℕ
  pub invoked : IsInvoked program number x
  pub exists : IsTrue (exists_in layer (action_range x.action))

-- two such, in a store of the program, whose linear inputs carry no permission twice, nor one of the linear globals
pub record Meet (program : Program) (layer : ℕ) (store : Store) (x y : Invoked) : Type 0 where
  pub sorted : IsStore program.globals store
  pub first : IsAt program layer x
  pub second : IsAt program layer y
  pub disjoint : IsTrue (apart program store x y)

abbrev pub FiresTo : Program → Store → Invoked → Store → List Value → Type 0
FiresTo program store x after outs = fires program.globals store x.action x.inputs x.chosen ≡ Some (after, outs)

abbrev pub MaySwap : Program → Store → Invoked → Invoked → Type 0
MaySwap program store x y = ActionsSwap program.globals store x.action x.inputs x.chosen y.action y.inputs y.chosen

-- a right mover goes behind another action, whose true gate it leaves true
pub record RightMoves (program : Program) (store : Store) (x y : Invoked) : Type 0 where
  pub swaps : MaySwap program store x y
  pub keeps : (after : Store) (outs : List Value) → gate_of program store x ≡ true → gate_of program store y ≡ true → FiresTo program store x after outs → gate_of program after y ≡ true

-- a left mover goes before another action, which leaves its true gate true, and whose false gate it leaves false
pub record LeftMoves (program : Program) (store : Store) (x y : Invoked) : Type 0 where
  pub swaps : MaySwap program store y x
  pub kept : (after : Store) (outs : List Value) → gate_of program store y ≡ true → gate_of program store x ≡ true → FiresTo program store y after outs → gate_of program after x ≡ true
  pub breaks : (after : Store) (outs : List Value) → gate_of program store x ≡ true → gate_of program store y ≡ false → FiresTo program store x after outs → gate_of program after y ≡ false

abbrev pub RightMoversMove : Type 0
RightMoversMove =
    (program : Program) (layer : ℕ) (store : Store) (x y : Invoked) → IsLayered program → MoversHold program layer
    → Meet program layer store x y → IsTrue (is_right x.action.mover) → RightMoves program store x y

abbrev pub LeftMoversMove : Type 0
LeftMoversMove =
    (program : Program) (layer : ℕ) (store : Store) (x y : Invoked) → IsLayered program → MoversHold program layer
    → Meet program layer store x y → IsTrue (is_left x.action.mover) → LeftMoves program store x y

-- a left mover whose gate holds fires with its offers
abbrev pub LeftMoversFire : Type 0
LeftMoversFire =
    (program : Program) (layer : ℕ) (store : Store) (x : Invoked) → IsLayered program → MoversHold program layer → IsStore program.globals store → IsAt program layer x
    → IsTrue (is_left x.action.mover) → gate_of program store x ≡ true
    → IsTrue (choices_fit x.action (offers program.globals store x.action x.inputs))
    × (after : Store) × (outs : List Value) × (fires program.globals store x.action x.inputs (offers program.globals store x.action x.inputs) ≡ Some (after, outs))
