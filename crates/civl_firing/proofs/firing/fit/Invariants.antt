use Rattle.std.proofs.Common.{◌≡◌, ◌≤◌, drop, length, map}
use Rattle.civl_firing.specs.values.Values.{are_of}
use Rattle.civl_firing.proofs.firing.fit.Given as goal

abbrev pub invariant-loop-choice : goal.invariant-loop-choice
invariant-loop-choice l = (l.at ≡ l.choice-index) × (l.at ≤ length l.chosen) × (are_of (drop l.at l.chosen) (map (λ c. c.sort) (drop l.at l.choices)) ≡ are_of l.chosen (map (λ c. c.sort) l.choices))
