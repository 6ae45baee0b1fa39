use Rattle.std.proofs.Common.{◌≡◌, ◌++◌, drop}
use Rattle.std.specs.Prelude.{filter}
use Rattle.civl_conditions.specs.paths.Seen.{exists_near}
use Rattle.civl_conditions.specs.Variables.{of_globals}
use Rattle.civl_conditions.proofs.variables_groups.push_around.Given as goal

abbrev pub invariant-loop-global : goal.invariant-loop-global
invariant-loop-global l = l.list ++ of_globals l.front (filter (exists_near l.step) (drop l.global-index l.globals)) ≡ l.fn.list ++ of_globals l.front (filter (exists_near l.step) l.globals)
