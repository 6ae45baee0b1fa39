use Rattle.std.proofs.Common.{◌≡◌, ◌++◌, map, drop}
use Rattle.civl_weights.proofs.sums.statements.add_names.Given as goal

abbrev pub invariant-loop-other : goal.invariant-loop-other
invariant-loop-other l = map (λ n. n.now) l.names.items ++ drop l.other-index l.others ≡ map (λ n. n.now) l.fn.names.items ++ l.others
