use Rattle.std.proofs.Common.{◌≡◌, drop, map}
use Rattle.std.specs.List.{find}
use Rattle.civl_linear.specs.Held.{holds, without_names}
use Rattle.civl_linear.specs.Modes.{given_names}
use Rattle.civl_subjects.proofs.linear.first_given.Given as goal

abbrev pub invariant-loop-at : goal.invariant-loop-at
invariant-loop-at l =
    find (holds (map (λ name. name.now) l.names) (without_names (map (λ name. name.now) l.gone) (map (λ name. name.now) l.names) l.held)) (given_names (drop l.at l.outs) (drop l.at l.results)) ≡ find (holds (map (λ name. name.now) l.fn.names) (without_names (map (λ name. name.now) l.fn.gone) (map (λ name. name.now) l.fn.names) l.fn.held)) (given_names l.fn.outs l.fn.results)
