use Rattle.std.proofs.Common.{◌≡◌, drop, map, ◌++◌}
use Rattle.civl_linear.specs.Modes.{passed_names}
use Rattle.civl_subjects.specs.inner.Meant.{wants}
use Rattle.civl_subjects.proofs.linear.push_passed.Given as goal

abbrev pub invariant-loop-at : goal.invariant-loop-at
invariant-loop-at l =
    map (λ name. name.now) l.names.items ++ passed_names (wants l.want) (drop l.at l.params) (drop l.at l.args)
    ≡ map (λ name. name.now) l.fn.names.items ++ passed_names (wants l.fn.want) l.fn.params l.fn.args
