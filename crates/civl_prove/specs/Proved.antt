-- What is found of an outline, under a budget of learned clauses for each goal.
use Rattle.std.specs.Prelude.{◌≡◌, ℕ, ◌<◌, List, map, length, Some, slice_get, IsTrue}
use Rattle.civl_bits.specs.declared.value.Value.{Value}
use Rattle.civl_tree.specs.declared.program.Program.{Program}
use Rattle.civl_outlines.specs.declared.outline.Outline.{Outline}
use Rattle.civl_goals.specs.declared.goal.Goal.{Goal}
use Rattle.civl_goals.specs.Listed.{goals}
use Rattle.civl_goals.specs.Variables.{variables}
use Rattle.civl_goals.specs.Failed.{failed}
use Rattle.civl_goals.specs.Weights.{weight}
use Rattle.civl_verdicts.specs.Formulas.{Formula}
use Rattle.civl_verdicts.specs.Verdicts.{IsSpentOn}
use Rattle.civl_goals.specs.GoalHolds.{AreValuesOf, GoalHolds}
use Rattle.civl_prove.specs.declared.proved.Proved.{Proved}
use Rattle.civl_prove.specs.declared.proved.Proved.TheVariants.{All, Fails, Undecided}

-- that values violate the goal, over its variables
abbrev pub goal_formula : Program → Outline → Goal → Formula
goal_formula program outline goal = record {
  sorts = map (λ v. v.sort) (variables program goal);
  weight = weight program outline goal;
  truth = failed program outline goal;
}

-- values for its variables that violate it
pub record GoalFails (program : Program) (outline : Outline) (goal : Goal) (values : List Value) : Type 0 where
  pub fit : AreValuesOf program goal values
  pub fail : IsTrue (failed program outline goal values)

-- the first goals, so many, hold
abbrev pub HoldUpTo : Program → Outline → ℕ → Type 0
HoldUpTo program outline count = (i : ℕ) (goal : Goal) → i < count → slice_get (goals program outline) i ≡ Some goal → GoalHolds program outline goal

-- the goal has this place in the list, and each goal before it holds
pub record IsReached (program : Program) (outline : Outline) (goal : Goal) (place : ℕ) : Type 0 where
  pub there : slice_get (goals program outline) place ≡ Some goal
  pub before : HoldUpTo program outline place

-- all goals hold, and so many they are; or each before this one holds, and these values violate it; or the log spends the budget on
-- clauses that stand for its violation, which is wide for the budget
abbrev pub Proves : Program → Outline → ℕ → Proved → Type 0
Proves program outline budget (All count) = (count ≡ length (goals program outline)) × HoldUpTo program outline count
Proves program outline budget (Fails goal values) = ((place : ℕ) × IsReached program outline goal place) × GoalFails program outline goal values
Proves program outline budget (Undecided goal log) = ((place : ℕ) × IsReached program outline goal place) × IsSpentOn budget (goal_formula program outline goal) log
