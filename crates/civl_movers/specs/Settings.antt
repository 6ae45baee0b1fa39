-- The variables of a condition on actions, as terms: the globals of the step's lower layer, and the parameters and choices of
-- its actions behind them.
use Rattle.std.specs.Prelude.{◌≡◌, ℕ, ◌+◌, ◌-◌, ◌*◌, ◌<◌, Bool, true, ◌&&◌, nat_eq, if◌then◌else◌, List, length, slice_get, Some}
use Rattle.std.specs.List.{list_all}
use Rattle.civl_tree.specs.SpellingDomain.{allows_out}
use Rattle.civl_tree.specs.declared.action.Action.{Action}
use Rattle.civl_tree.specs.declared.program.Program.{Program}
use Rattle.civl_firing.specs.values.ActionWeights.{action_weight}
use Rattle.civl_firing.specs.declared.store.Store.{Store}
use Rattle.civl_terms.specs.declared.node.Node.{Node}
use Rattle.civl_conditions.specs.footprints.Agreement.{exists_at}
use Rattle.civl_conditions.specs.declared.condition.Condition.{Condition}
use Rattle.civl_conditions.specs.declared.condition.Condition.TheVariants.{Keep, Pair, Fire}
use Rattle.civl_conditions.specs.Values.{Invoked as Meant, count_of, store_of, instance_count}
use Rattle.civl_conditions.specs.Movers.{clashes, spoils, reveals}
use Rattle.civl_states.specs.formula_parts.Given.{given}
use Rattle.civl_states.specs.declared.invoked.Invoked.{Invoked}
use Rattle.civl_states.specs.Stores.{AreStore}
use Rattle.civl_states.specs.Runs.{IsReady, IsInvoked, out_sorts}
use Rattle.civl_states.specs.Same.{layer_sorts, same_weight}
use Rattle.civl_movers.specs.declared.settings.Pairing.{Pairing}

-- K2 to K8, of actions that there are
abbrev pub IsOfActions : Program → Condition → Type 0
IsOfActions program (Keep step x) = x < length program.actions
IsOfActions program (Pair number step x y) = (x < length program.actions) × (y < length program.actions)
IsOfActions program (Fire step x) = x < length program.actions
IsOfActions program _ = ⊥

-- the outputs of each action have a mode that the grammar gives outputs
abbrev pub HaveOutModes : Program → Type 0
HaveOutModes program = (x : ℕ) (a : Action) → slice_get program.actions x ≡ Some a → list_all allows_out a.outs ≡ true

-- so many globals the step's lower layer has
abbrev pub lower_count : Program → ℕ → ℕ
lower_count program step = count_of (exists_at (step - 1)) program

-- the terms of the globals say the store of the first variables
abbrev pub AreLower : List Node → Program → ℕ → List ℕ → Type 0
AreLower ns program step globals = AreStore ns program globals (λ env. store_of (exists_at (step - 1)) program (given env 0 (lower_count program step)))

-- an action with this number, whose terms say the variables from a number on
pub record IsFrom (ns : List Node) (program : Program) (action first : ℕ) (x : Invoked) : Type 0 where
  pub is : x.action ≡ action
  pub ready : IsReady ns program x
  pub says : (a : Action) → slice_get program.actions action ≡ Some a → IsInvoked ns program x a (λ env. given env first (length a.params)) (λ env. given env (first + length a.params) (length a.choices))

-- two actions with these numbers, one behind the other, and the globals before them
pub record IsPairing (ns : List Node) (program : Program) (step x y : ℕ) (p : Pairing) : Type 0 where
  pub globals : AreLower ns program step p.globals
  pub first : IsFrom ns program x (lower_count program step) p.x
  pub second : (a : Action) → slice_get program.actions x ≡ Some a → IsFrom ns program y (lower_count program step + instance_count a) p.y

-- ---- two actions

-- what the condition with this number asks, K3 to K7, where the items of both are apart
abbrev pub kind_fails : Program → ℕ → ℕ → Store → Meant → Meant → Bool
kind_fails program number step g x y =
    if nat_eq number 3 then clashes program step g x y
    else if nat_eq number 4 then spoils program g x y
    else if nat_eq number 5 then clashes program step g y x
    else if nat_eq number 6 then spoils program g y x
    else nat_eq number 7 && reveals program g x y

-- by so much at most it raises a graph's weight
abbrev pub kind_weight : Program → ℕ → Action → Action → ℕ
kind_weight program step a b =
    2 * (action_weight program a + action_weight program b) + same_weight (layer_sorts program (step - 1)) + same_weight (out_sorts a) + same_weight (out_sorts b) + 12
