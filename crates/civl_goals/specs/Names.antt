-- The printed names of goals.
use Rattle.std.specs.Prelude.{ℕ, List, ◌++◌, codes, decimal}
use Rattle.civl_tree.specs.declared.program.Program.{Program}
use Rattle.civl_conditions.specs.Names.{action_text, proc_text}
use Rattle.civl_goals.specs.declared.goal.Goal.{Goal}
use Rattle.civl_goals.specs.declared.goal.Goal.TheVariants as goal

-- a statement of a root
abbrev pub statement_text : Program → ℕ → ℕ → List ℕ
statement_text program r s = proc_text program r ++ codes " at " ++ decimal s

unfoldable pub goal_text : Program → Goal → List ℕ
goal_text program goal.Invariant = codes "O1 invariant"
goal_text program (goal.Thread i) = codes "O1 thread " ++ decimal i
goal_text program (goal.Linear x) = codes "O1 linear " ++ action_text program x
goal_text program (goal.Safe r s) = codes "O2 safe " ++ statement_text program r s
goal_text program (goal.Keep r s) = codes "O2 invariant " ++ statement_text program r s
goal_text program (goal.Spawn r s) = codes "O2 spawn " ++ statement_text program r s
goal_text program (goal.Next r s) = codes "O2 next " ++ statement_text program r s
goal_text program (goal.Other r s q t) = codes "O3 " ++ statement_text program r s ++ codes " keeps " ++ statement_text program q t
