use Rattle.std.proofs.Common.{◌≡◌, ◌++◌, [], drop}
use Rattle.std.specs.Prelude.{filter}
use Rattle.civl_conditions.specs.footprints.Agreement.{exists_at}
use Rattle.civl_conditions.specs.Variables.{of_globals}
use Rattle.civl_conditions.proofs.variables_groups.push_at.Given as goal

abbrev pub invariant-loop-global : goal.invariant-loop-global
invariant-loop-global l = l.list ++ of_globals [] (filter (exists_at l.layer) (drop l.global-index l.globals)) ≡ l.fn.list ++ of_globals [] (filter (exists_at l.layer) l.globals)
