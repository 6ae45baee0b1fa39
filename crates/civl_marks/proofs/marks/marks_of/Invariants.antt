use Rattle.std.proofs.Common.{◌≡◌, ◌++◌, drop}
use Rattle.civl_conditions.specs.Violated.{violated}
use Rattle.civl_marks.specs.Marks.{marks, marks_behind}
use Rattle.civl_marks.proofs.marks.marks_of.Given as goal

abbrev pub invariant-loop-at : goal.invariant-loop-at
invariant-loop-at l =
    l.found.items ++ marks_behind (violated l.src l.condition) l.kept.items (drop l.at l.values) ≡ marks l.src l.condition l.values
