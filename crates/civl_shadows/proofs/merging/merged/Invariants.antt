use Rattle.std.proofs.Common.{◌≡◌, ◌+◌, ◌++◌, drop}
use Rattle.civl_reduction.specs.blocks.Shadow.{merged_values}
use Rattle.civl_shadows.proofs.merging.merged.Given as goal

abbrev pub invariant-loop-at : goal.invariant-loop-at
invariant-loop-at l =
    l.values.items ++ merged_values (l.layer + 1) (drop l.at l.globals) (drop l.at l.kept) (drop l.at l.introduced.values) ≡ merged_values (l.layer + 1) l.globals l.kept l.introduced.values
