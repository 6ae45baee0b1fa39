-- When an outline proves what it says of a program: it fits, and all its goals hold. (Proof outlines: Owicki and Gries, An axiomatic
-- proof technique for parallel programs I, Acta Informatica, 1976.)
use Rattle.std.specs.Prelude.{ℕ, ◌≡◌, ◌<◌, [], Some, slice_get, IsTrue, Contains}
use Rattle.civl_tree.specs.declared.action.Action.{Action}
use Rattle.civl_tree.specs.declared.program.Program.{Program}
use Rattle.civl_tree.specs.SpellingDomain.{allows_program}
use Rattle.civl_tree.specs.rules.Rules.{Keeps}
use Rattle.civl_outlines.specs.declared.outline.Outline.{Outline}
use Rattle.civl_firing.specs.declared.store.Store.{Store}
use Rattle.civl_meaning.specs.Initial.{IsInitial}
use Rattle.civl_layers.specs.Layered.{IsLayered}
use Rattle.civl_linear.specs.LinearRules.{linear_rules}
use Rattle.civl_yields.specs.YieldRules.{yield_rules}
use Rattle.civl_reduction.specs.permissions.Stay.{KeepsPermissions}
use Rattle.civl_goals.specs.declared.goal.Goal.{Goal}
use Rattle.civl_goals.specs.Listed.{goals}
use Rattle.civl_goals.specs.Rules.{unfit, descending}
use Rattle.civl_goals.specs.GoalHolds.{GoalHolds}

-- its holds and notes are expressions of their places, in the topmost program threads run roots and roots call actions alone, and
-- all goals hold
pub record IsOutlined (program : Program) (outline : Outline) : Type 0 where
  pub fits : unfit program outline ≡ []
  pub flat : descending program ≡ []
  pub hold : (goal : Goal) → Contains (goals program outline) goal → GoalHolds program outline goal

-- K2 holds of the actions whose first layer is below the top; of the others a goal says it
abbrev pub LowerKeepPermissions : Program → Type 0
LowerKeepPermissions program =
    (number : ℕ) (action : Action) → slice_get program.actions number ≡ Some action → action.first < program.layers → KeepsPermissions program action

-- a program that the grammar can write and that keeps the rules, with K2; an outline of it; and an initial store
pub record IsProved (program : Program) (outline : Outline) (store : Store) : Type 0 where
  pub written : IsTrue (allows_program program)
  pub layered : IsLayered program
  pub linear : Keeps linear_rules program
  pub yields : Keeps yield_rules program
  pub permissions : LowerKeepPermissions program
  pub outlined : IsOutlined program outline
  pub initial : IsInitial program store
