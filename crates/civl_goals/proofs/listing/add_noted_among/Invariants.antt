use Rattle.std.proofs.Common.{◌≡◌, ◌++◌, drop, map}
use Rattle.civl_conditions.specs.Steps.{each_at}
use Rattle.civl_goals.specs.Listed.{noted_at}
use Rattle.civl_goals.proofs.listing.add_noted_among.Given as goal

abbrev pub invariant-loop-at : goal.invariant-loop-at
invariant-loop-at l = l.list.items ++ each_at (noted_at l.program l.outline l.place) l.at (map (λ stmt. stmt.now) (drop l.at l.flat)) ≡ l.fn.list.items ++ each_at (noted_at l.program l.outline l.place) 0 (map (λ stmt. stmt.now) l.flat)
