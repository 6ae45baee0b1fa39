use Rattle.std.proofs.Common.{◌≡◌, drop, map}
use Rattle.std.specs.List.{find}
use Rattle.civl_linear.specs.Modes.{at_modes, is_passed}
use Rattle.civl_linear.specs.Places.{not_held}
use Rattle.civl_subjects.proofs.linear.first_not_held.Given as goal

abbrev pub invariant-loop-at : goal.invariant-loop-at
invariant-loop-at l =
    find (not_held l.proc (map (λ name. name.now) l.names) l.held) (at_modes is_passed (drop l.at l.params) (drop l.at l.args))
    ≡ find (not_held l.fn.proc (map (λ name. name.now) l.fn.names) l.fn.held) (at_modes is_passed l.fn.params l.fn.args)
