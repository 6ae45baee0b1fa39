use Rattle.std.proofs.Common.{◌≡◌, ◌++◌, drop}
use Rattle.civl_assumed.specs.Among.{test_of}
use Rattle.civl_assumptions.specs.Names.{of_globals}
use Rattle.civl_assumptions.proofs.names.push_globals.Given as goal

abbrev pub invariant-loop-global : goal.invariant-loop-global
invariant-loop-global l =
    l.names.items ++ of_globals (test_of l.among) (drop l.global-index l.globals) ≡ l.fn.names.items ++ of_globals (test_of l.among) l.globals
