use Rattle.std.proofs.Common.{◌≡◌, drop, map}
use Rattle.civl_linear.specs.Held.{holds, without_names}
use Rattle.civl_subjects.proofs.linearity.holds_without.Given as goal

abbrev pub invariant-loop-at : goal.invariant-loop-at
invariant-loop-at l =
    holds (map (λ name. name.now) (drop l.at l.names)) (without_names (map (λ name. name.now) l.gone) (map (λ name. name.now) (drop l.at l.names)) (drop l.at l.held)) l.name ≡ holds (map (λ name. name.now) l.fn.names) (without_names (map (λ name. name.now) l.fn.gone) (map (λ name. name.now) l.fn.names) l.fn.held) l.fn.name
