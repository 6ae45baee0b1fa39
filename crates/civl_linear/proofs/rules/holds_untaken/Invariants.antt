use Rattle.std.proofs.Common.{◌≡◌, drop, map}
use Rattle.civl_linear.specs.Modes.{is_taken, passed_names}
use Rattle.civl_linear.specs.Held.{holds, without_names}
use Rattle.civl_linear.proofs.rules.holds_untaken.Given as goal

abbrev pub invariant-loop-at : goal.invariant-loop-at
invariant-loop-at l = holds (map (λ name. name.now) (drop l.at l.names)) (without_names (passed_names is_taken l.params l.args) (map (λ name. name.now) (drop l.at l.names)) (drop l.at l.flags)) l.name ≡ holds (map (λ name. name.now) l.fn.names) (without_names (passed_names is_taken l.fn.params l.fn.args) (map (λ name. name.now) l.fn.names) l.fn.held) l.fn.name
