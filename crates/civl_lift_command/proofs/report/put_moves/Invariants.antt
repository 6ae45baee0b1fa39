use Rattle.std.proofs.Common.{◌≡◌, ◌++◌, drop, flat_map}
use Rattle.civl_lift_command.specs.Report.{move_line}
use Rattle.civl_lift_command.proofs.report.put_moves.Given as goal

abbrev pub invariant-loop-chosen : goal.invariant-loop-chosen
invariant-loop-chosen l = l.out.items ++ flat_map move_line (drop l.chosen-index l.moves) ≡ l.fn.out.items ++ flat_map move_line l.moves
