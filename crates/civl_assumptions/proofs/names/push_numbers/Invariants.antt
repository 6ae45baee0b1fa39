use Rattle.std.proofs.Common.{◌≡◌, ◌++◌, drop}
use Rattle.civl_assumptions.specs.Names.{of_numbers}
use Rattle.civl_assumptions.proofs.names.push_numbers.Given as goal

abbrev pub invariant-loop-number : goal.invariant-loop-number
invariant-loop-number l =
    l.names.items ++ of_numbers l.word l.proc (drop l.number-index l.numbers) ≡ l.fn.names.items ++ of_numbers l.word l.proc l.numbers
