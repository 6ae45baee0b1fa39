use Rattle.std.proofs.Common.{◌≡◌, ◌++◌, drop}
use Rattle.civl_verdicts.specs.reports.Values.{value_lines}
use Rattle.civl_verdicts.proofs.reports.values.put_lines.Given as goal

abbrev pub invariant-loop-at : goal.invariant-loop-at
invariant-loop-at l = l.out.items ++ value_lines l.indentation (drop l.at l.variables) (drop l.at l.values) ≡ l.initial.out.items ++ value_lines l.indentation l.variables l.values
