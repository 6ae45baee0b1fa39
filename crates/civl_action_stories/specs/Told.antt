-- The story of a violation: how values violate a condition on actions, line by line.
use Rattle.std.specs.Prelude.{List}
use Rattle.civl_bits.specs.declared.value.Value.{Value}
use Rattle.civl_tree.specs.declared.program.Program.{Program}
use Rattle.civl_conditions.specs.declared.condition.Condition.{Condition}
use Rattle.civl_clashes.specs.declared.violations.Pair.{Pair}
use Rattle.civl_clashes.specs.declared.violations.Violation.{Violation}
use Rattle.civl_clashes.specs.declared.violations.Violation.TheVariants.{Starts, Loses, Clashes, Spoils, Reveals, Waits, Strays}
use Rattle.civl_lines.specs.declared.line.Line.{Line}
use Rattle.civl_action_stories.specs.Actors.{Actor, of_actor}
use Rattle.civl_action_stories.specs.Starts.{start_story}
use Rattle.civl_action_stories.specs.Losses.{loss_story}
use Rattle.civl_action_stories.specs.Clashes.{clash_story, is_y_first}
use Rattle.civl_action_stories.specs.Gates.{spoil_story, reveal_story, wait_story}
use Rattle.civl_action_stories.specs.Strays.{stray_story}

-- what is told of both actions of a pair, if the program has them
abbrev pub of_pair : Program → Pair → (Actor → Actor → List Line) → List Line
of_pair program pair tell = of_actor program pair.first (λ x. of_actor program pair.second (tell x))

-- what is told of these values, one for each variable of the condition, by how they violate it
unfoldable pub violation_story : Program → Condition → List Value → Violation → List Line
violation_story program condition values (Starts g) = start_story program condition g
violation_story program condition values (Loses g i e loss) = of_actor program i (loss_story program g e loss)
violation_story program condition values (Clashes pair clash) =
    of_pair program pair (clash_story program pair.store (is_y_first condition) clash)
violation_story program condition values (Spoils pair e) = of_pair program pair (spoil_story program pair.store e)
violation_story program condition values (Reveals pair e) = of_pair program pair (reveal_story program pair.store e)
violation_story program condition values (Waits g i) = of_actor program i (wait_story program g)
violation_story program condition values (Strays g i e) = of_actor program i (stray_story program condition values g e)
