-- Serves private functions: what the variables of a goal of a statement say.
use Rattle.std.specs.Prelude.{ℕ, ◌+◌, length}
use Rattle.civl_tree.specs.declared.program.Program.{Program}
use Rattle.civl_meaning.specs.Config.{frame_sorts}
use Rattle.civl_conditions.specs.Values.{store_of, count_of}
use Rattle.civl_states.specs.formula_parts.Said.{Env}
use Rattle.civl_states.specs.formula_parts.Given.{given}
use Rattle.civl_goals.specs.Outlines.{exists_on_top}
use Rattle.civl_goal_terms.specs.declared.places.At.{At}
use Rattle.civl_goal_terms.specs.inner.Settings.{Here, sorts_at}

-- so many globals the topmost program has
abbrev pub top_count : Program → ℕ
top_count program = count_of (exists_on_top program) program

-- the choices stand behind the frame
abbrev pub chosen_from : Program → At → ℕ
chosen_from program at = top_count program + length (frame_sorts at.proc.now)

-- and so many values are before what stands behind them
abbrev pub behind_chosen : Program → At → ℕ
behind_chosen program at = chosen_from program at + length (sorts_at program at)

abbrev pub here_from : Program → At → Env → Here
here_from program at env = record {
  store = store_of (exists_on_top program) program (given env 0 (top_count program));
  locals = given env (top_count program) (length (frame_sorts at.proc.now));
  chosen = given env (chosen_from program at) (length (sorts_at program at));
}
