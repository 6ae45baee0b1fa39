use Rattle.std.proofs.Common.{◌≡◌, ◌++◌, drop, map}
use Rattle.civl_linear.specs.Modes.{passed_names}
use Rattle.civl_linear.specs.inner.Wants.{wants}
use Rattle.civl_linear.specs.Held.{without_names}
use Rattle.civl_linear.proofs.calls.without_names.Given as goal

abbrev pub invariant-loop-at : goal.invariant-loop-at
invariant-loop-at l = l.left ++ without_names (passed_names (wants l.want) l.params l.args) (map (λ name. name.now) (drop l.at l.names)) (drop l.at l.flags) ≡ without_names (passed_names (wants l.fn.want) l.fn.params l.fn.args) (map (λ name. name.now) l.fn.names) l.fn.held
