-- The lines of a run, from its history as code has it.
use Rattle.std.specs.Prelude.{ℕ, List, ◌++◌, map}
use Rattle.civl_tree.specs.declared.program.Program.{Program}
use Rattle.civl_tree.specs.declared.script.Script.{Script}
use Rattle.civl_meaning.specs.declared.config.Move.{Move}
use Rattle.civl_history.specs.declared.run.History.{History}
use Rattle.civl_history.specs.History.{stopped_thread}
use Rattle.civl_lines.specs.declared.line.Kind.TheVariants.{Error}
use Rattle.civl_lines.specs.declared.line.Line.{Line}
use Rattle.civl_explain_command.specs.Runs.{end_line, failing_text, move_line, stopped_lines, stopped_text}

abbrev pub history_lines : Script → Program → List Move → History → List Line
history_lines script program moves h =
    map (move_line program) h.moves
    ++ (stopped_lines script program h.trace.moved (stopped_thread moves h.trace.moved) h.stopped_at
    (stopped_text (stopped_thread moves h.trace.moved) h.trace.stopped)
    ++ end_line program Error h.failing_at (failing_text h.trace.failing))
