use Rattle.std.proofs.Common.{◌≡◌, ◌++◌, drop, map}
use Rattle.civl_yields.specs.Phases.{before_calls}
use Rattle.civl_yields.proofs.listing.before_calls.Given as goal

abbrev pub invariant-loop-number : goal.invariant-loop-number
invariant-loop-number l = l.left ++ before_calls (drop l.number (map (λ stmt. stmt.now) l.flat)) (drop l.number l.phases) ≡ before_calls (map (λ stmt. stmt.now) l.fn.flat) l.fn.phases
