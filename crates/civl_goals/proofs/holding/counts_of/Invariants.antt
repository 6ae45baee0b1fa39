use Rattle.std.proofs.Common.{◌≡◌, ◌++◌, map, drop, length}
use Rattle.civl_linear.specs.Cuts.{held_numbers}
use Rattle.civl_goals.proofs.holding.counts_of.Given as goal

abbrev pub invariant-loop-held : goal.invariant-loop-held
invariant-loop-held l =
    l.counts.items ++ map (λ held. length (held_numbers 0 (map (λ name. name.now) l.fn.names) held)) (drop l.held-index l.fn.befores) ≡ map (λ held. length (held_numbers 0 (map (λ name. name.now) l.fn.names) held)) l.fn.befores
