use Rattle.std.proofs.Common.{◌≡◌, ◌++◌, map, drop}
use Rattle.civl_weights.specs.sums.Sums.{updated_globals}
use Rattle.civl_weights.proofs.sums.statements.add_updated.Given as goal

abbrev pub invariant-loop-update : goal.invariant-loop-update
invariant-loop-update l = map (λ n. n.now) l.names.items ++ updated_globals l.globals (drop l.update-index l.updates) ≡ map (λ n. n.now) l.fn.names.items ++ updated_globals l.globals l.updates
