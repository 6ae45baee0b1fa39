use Rattle.std.proofs.Common.{◌≡◌, drop}
use Rattle.civl_tree.specs.rules.Names.{has_name}
use Rattle.civl_linear.specs.Modes.{passed_names}
use Rattle.civl_linear.specs.inner.Wants.{wants}
use Rattle.civl_linear.proofs.passing.is_passed_name.Given as goal

abbrev pub invariant-loop-at : goal.invariant-loop-at
invariant-loop-at l = has_name (passed_names (wants l.want) (drop l.at l.params) (drop l.at l.args)) l.name ≡ has_name (passed_names (wants l.fn.want) l.fn.params l.fn.args) l.fn.name
