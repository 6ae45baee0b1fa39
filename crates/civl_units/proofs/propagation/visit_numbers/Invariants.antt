use Rattle.std.proofs.Common.{◌++◌, false, take}
use Rattle.civl_units.specs.Marks.{NumbersSay}
use Rattle.civl_units.proofs.propagation.visit_numbers.Given as goal

abbrev pub invariant-loop-number : goal.invariant-loop-number
invariant-loop-number l = NumbersSay l.fn.marks l.marks (l.formula ++ l.earlier) (take l.number-index l.numbers) false
