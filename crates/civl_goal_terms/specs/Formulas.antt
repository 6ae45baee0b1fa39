-- The term of a goal's violation: it is true exactly at the values of the goal's variables that violate it.
use Rattle.std.specs.Prelude.{ℕ, List, map}
use Rattle.civl_tree.specs.declared.expr.Sort.{Sort}
use Rattle.civl_tree.specs.declared.program.Program.{Program}
use Rattle.civl_outlines.specs.declared.outline.Outline.{Outline}
use Rattle.civl_terms.specs.declared.node.Node.{Node}
use Rattle.civl_states.specs.Formulas.{IsFormula}
use Rattle.civl_goals.specs.declared.goal.Goal.{Goal}
use Rattle.civl_goals.specs.Variables.{variables}
use Rattle.civl_goals.specs.Failed.{failed}

-- the sorts of a goal's variables
abbrev pub sorts_of : Program → Goal → List Sort
sorts_of program goal = map (λ v. v.sort) (variables program goal)

-- the term of the formula that values violate a goal
abbrev pub IsViolation : List Node → ℕ → Program → Outline → Goal → Type 0
IsViolation ns id program outline goal = IsFormula ns id (sorts_of program goal) (failed program outline goal)
