use Rattle.std.proofs.Common.{◌≡◌, ◌++◌, drop, map}
use Rattle.civl_explain_command.specs.Runs.{move_line}
use Rattle.civl_explain_command.proofs.moves.push_moves.Given as goal

abbrev pub invariant-loop-made : goal.invariant-loop-made
invariant-loop-made l =
    l.lines.items ++ map (move_line l.program) (drop l.made-index l.moves) ≡ l.fn.lines.items ++ map (move_line l.program) l.moves
