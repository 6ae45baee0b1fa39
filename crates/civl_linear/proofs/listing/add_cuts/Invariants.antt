use Rattle.std.proofs.Common.{◌≡◌, ◌++◌, drop, map}
use Rattle.civl_linear.specs.Cuts.{held_at_cuts}
use Rattle.civl_linear.proofs.listing.add_cuts.Given as goal

abbrev pub invariant-loop-number : goal.invariant-loop-number
invariant-loop-number l = l.cuts ++ held_at_cuts (map (λ name. name.now) l.names) (map (λ stmt. stmt.now) (drop l.number l.flat)) (drop l.number l.befores) ≡ l.fn.cuts ++ held_at_cuts (map (λ name. name.now) l.fn.names) (map (λ stmt. stmt.now) l.fn.flat) l.fn.befores
