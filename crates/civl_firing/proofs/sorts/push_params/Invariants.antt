use Rattle.std.proofs.Common.{◌≡◌, ◌++◌, take}
use Rattle.civl_firing.specs.Scope.{zeros_of_params}
use Rattle.civl_firing.proofs.sorts.push_params.Given as goal

abbrev pub invariant-loop-param : goal.invariant-loop-param
invariant-loop-param l = l.values.items ≡ l.initial.values.items ++ zeros_of_params (take l.param-index l.params)
