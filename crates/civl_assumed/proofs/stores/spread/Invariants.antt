use Rattle.std.proofs.Common.{◌≡◌, ◌++◌, drop}
use Rattle.civl_conditions.specs.Values.{spread}
use Rattle.civl_assumed.specs.Among.{test_of}
use Rattle.civl_assumed.proofs.stores.spread.Given as goal

abbrev pub invariant-loop-global : goal.invariant-loop-global
invariant-loop-global l =
    l.all.items ++ spread (test_of l.among) (drop l.global-index l.globals) (drop l.at l.values) ≡ spread (test_of l.among) l.globals l.values
