use Rattle.std.proofs.Common.{◌≡◌, ◌++◌, [], drop}
use Rattle.std.specs.Prelude.{filter}
use Rattle.civl_conditions.specs.Variables.{of_globals}
use Rattle.civl_goals.specs.Outlines.{exists_on_top, top_globals}
use Rattle.civl_goals.proofs.variables.push_top.Given as goal

abbrev pub invariant-loop-global : goal.invariant-loop-global
invariant-loop-global l = l.list ++ of_globals [] (filter (exists_on_top l.program) (drop l.global-index l.globals)) ≡ l.fn.list ++ of_globals [] (top_globals l.fn.program)
