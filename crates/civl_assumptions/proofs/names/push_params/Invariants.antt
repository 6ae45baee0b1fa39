use Rattle.std.proofs.Common.{◌≡◌, ◌++◌, drop}
use Rattle.civl_assumptions.specs.Names.{of_params}
use Rattle.civl_assumptions.proofs.names.push_params.Given as goal

abbrev pub invariant-loop-param : goal.invariant-loop-param
invariant-loop-param l = l.names.items ++ of_params l.word (drop l.param-index l.params) ≡ l.fn.names.items ++ of_params l.word l.params
