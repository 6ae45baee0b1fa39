-- By what values violate goals of the flag program with a root (specs/examples/Flag of civl_goals).
use Rattle.std.specs.Prelude.{ℕ, ◌≡◌, true, false, List, [], ◌∷◌, None, Some, codes}
use Rattle.civl_bits.specs.declared.value.Value.{Value}
use Rattle.civl_tree.specs.declared.expr.Expr as expr
use Rattle.civl_firing.specs.examples.Written.{bool, holding, name}
use Rattle.civl_goals.specs.declared.goal.Goal.TheVariants.{Safe, Next}
use Rattle.civl_goals.specs.examples.Flag.{sets, reads, outline_of, half_noted}
use Rattle.civl_goal_losses.specs.declared.losses.Moment.{Moment}
use Rattle.civl_goal_losses.specs.declared.losses.Fault.TheVariants.{FalseGate}
use Rattle.civl_goal_losses.specs.declared.losses.GoalLoss.TheVariants.{Fails, Leads}
use Rattle.civl_goal_losses.specs.GoalLosses.{goal_loss, moment}

-- Main, before the statement with this number
abbrev main_at : List Value → ℕ → List Value → Moment
main_at globals place locals = moment (holding globals) (record { procedure = 1; place = place; locals = locals })

-- the first call's gate is `f`, and f is false: that of the action 1, AtomSet, which has no inputs
abbrev pub GateIsFalse : Type 0
GateIsFalse =
    goal_loss (sets expr.True (name (codes "f"))) (outline_of (sets expr.True (name (codes "f"))) [] []) (Safe 1 0) (bool false ∷ [])
    ≡ Some (Fails (main_at (bool false ∷ []) 0 []) (FalseGate 1 []))

-- the read leads to the assert with a false w, where the note says w; where f is true it doesn't
abbrev pub ReadLeads : Type 0
ReadLeads =
    (goal_loss reads half_noted (Next 1 1) (bool false ∷ bool false ∷ [])
    ≡ Some (Leads (main_at (bool false ∷ []) 1 (bool false ∷ [])) (main_at (bool false ∷ []) 2 (bool false ∷ []))))
    × (goal_loss reads half_noted (Next 1 1) (bool true ∷ bool false ∷ []) ≡ None)
