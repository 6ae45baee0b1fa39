use Rattle.std.proofs.Common.{◌≡◌, map, drop}
use Rattle.civl_tree.specs.rules.Names.{has_name}
use Rattle.civl_weights.proofs.sums.statements.is_any.Given as goal

abbrev pub invariant-loop-other : goal.invariant-loop-other
invariant-loop-other l = has_name (map (λ n. n.now) (drop l.other-index l.names)) l.name ≡ has_name (map (λ n. n.now) l.names) l.name
