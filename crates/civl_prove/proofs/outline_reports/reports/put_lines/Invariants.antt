use Rattle.std.proofs.Common.{◌≡◌, [], ◌++◌, drop}
use Rattle.civl_verdicts.specs.reports.Values.{value_lines}
use Rattle.civl_prove.proofs.outline_reports.reports.put_lines.Given as goal

abbrev pub invariant-loop-at : goal.invariant-loop-at
invariant-loop-at l = l.out.items ++ value_lines [] (drop l.at l.variables) (drop l.at l.values) ≡ l.initial.out.items ++ value_lines [] l.variables l.values
