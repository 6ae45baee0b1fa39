-- The goal that an action keeps permissions is a condition of the step that would follow the last one.
use Rattle.std.proofs.Common.{◌≡◌, ℕ, ◌+◌, List, refl}
use Rattle.civl_tree.specs.declared.program.Program.{Program}
use Rattle.civl_outlines.specs.declared.outline.Outline.{Outline}
use Rattle.civl_terms.specs.declared.node.Node.{Node}
use Rattle.civl_conditions.specs.declared.condition.Condition.TheVariants.{Keep as KeepsPermissions}
use Rattle.civl_conditions.specs.Weights as conditions
use Rattle.civl_states.specs.Formulas as states
use Rattle.civl_goals.specs.declared.goal.Goal.TheVariants as goal
use Rattle.civl_goals.specs.Variables.{variables}
use Rattle.civl_goals.specs.Failed.{failed}
use Rattle.civl_goals.specs.Weights.{weight}
use Rattle.civl_goal_terms.specs.Formulas.{sorts_of, IsViolation}

module _ (program : Program) (x : ℕ) where
  pub keep_sorts : sorts_of program (goal.Linear x) ≡ states.sorts_of program (KeepsPermissions (program.layers + 1) x)
  unfolding variables
  keep_sorts = refl

  module _ (outline : Outline) where
    pub keep_says : (ns : List Node) (id : ℕ) → states.IsViolation ns id program (KeepsPermissions (program.layers + 1) x) → IsViolation ns id program outline (goal.Linear x)
    unfolding variables failed
    keep_says ns id h = h

    pub keep_weighs : conditions.weight program (KeepsPermissions (program.layers + 1) x) ≡ weight program outline (goal.Linear x)
    unfolding variables weight conditions.weight
    keep_weighs = refl
