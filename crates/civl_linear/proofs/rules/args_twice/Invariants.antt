use Rattle.std.proofs.Common.{◌≡◌, drop}
use Rattle.civl_tree.specs.rules.Names.{any_twice}
use Rattle.civl_linear.specs.Modes.{is_passed, passed_names}
use Rattle.civl_linear.proofs.rules.args_twice.Given as goal

abbrev pub invariant-loop-at : goal.invariant-loop-at
invariant-loop-at l = any_twice (passed_names is_passed (drop l.at l.params) (drop l.at l.args)) ≡ any_twice (passed_names is_passed l.fn.params l.fn.args)
