-- The path of a condition K9 or K10, told from the condition's values (a counterexample as an execution from its initial values: Clarke,
-- Grumberg, McMillan, Zhao, DAC 1995).
use Rattle.std.specs.Prelude.{ℕ, ◌≤◌, List, Option, None, Some, ⊤}
use Rattle.civl_bits.specs.declared.value.Value.{Value}
use Rattle.civl_tree.specs.declared.program.Proc.{Proc}
use Rattle.civl_tree.specs.declared.program.Program.{Program}
use Rattle.civl_layers.specs.declared.cut.Cut.{Cut}
use Rattle.civl_conditions.specs.declared.condition.Condition.{Condition}
use Rattle.civl_conditions.specs.declared.condition.Condition.TheVariants.{Path, Block}
use Rattle.civl_conditions.specs.Steps.{of_cut}
use Rattle.civl_conditions.specs.Values.{Begun, begun}
use Rattle.civl_traces.specs.declared.walked.Walked.{Walked}
use Rattle.civl_losses.specs.declared.story.Story.{Story}
use Rattle.civl_losses.specs.Beginnings.{begun_from}
use Rattle.civl_losses.specs.Losses.{walked_of}

-- the values with which a path begins, and what it passes
pub record PathStory : Type 0 where
  pub begun : Begun
  pub walked : Walked

-- as the code has it
abbrev pub story : Story → PathStory
story told = record { begun = begun_from told.beginning; walked = told.walked }

-- the path from a cut of a procedure at a step, where the condition's variables have these values, in their order
abbrev pub story_from : Program → ℕ → List Value → Proc → Cut → PathStory
story_from program step values proc cut =
    let b = begun program step proc cut values in
    record { begun = b; walked = walked_of program step proc cut b }

-- the same by the numbers of the procedure and the cut; none where there is no such cut
abbrev pub story_of : Program → ℕ → ℕ → ℕ → List Value → Option PathStory
story_of program step q c values = of_cut program q c None (λ proc cut. Some (story_from program step values proc cut))

-- the step of a condition on a path is one of the program
abbrev pub IsAtStep : Program → Condition → Type 0
IsAtStep program (Path part step q c) = step ≤ program.layers
IsAtStep program (Block step q c target) = step ≤ program.layers
IsAtStep program _ = ⊤
