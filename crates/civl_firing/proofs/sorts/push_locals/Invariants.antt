use Rattle.std.proofs.Common.{◌≡◌, ◌++◌, take}
use Rattle.civl_firing.specs.Scope.{zeros_of_locals}
use Rattle.civl_firing.proofs.sorts.push_locals.Given as goal

abbrev pub invariant-loop-local : goal.invariant-loop-local
invariant-loop-local l = l.values.items ≡ l.initial.values.items ++ zeros_of_locals (take l.local-index l.locals)
