use Rattle.std.proofs.Common.{◌≡◌, map, drop}
use Rattle.civl_tree.specs.rules.Names.{has_name}
use Rattle.civl_weights.proofs.sums.statements.is_global.Given as goal

abbrev pub invariant-loop-global : goal.invariant-loop-global
invariant-loop-global l = has_name (map (λ g. g.name) (drop l.global-index l.globals)) l.name ≡ has_name (map (λ g. g.name) l.globals) l.name
