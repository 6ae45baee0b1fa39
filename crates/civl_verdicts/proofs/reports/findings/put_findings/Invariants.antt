use Rattle.std.proofs.Common.{◌≡◌, ◌++◌, drop}
use Rattle.civl_verdicts.specs.reports.Findings.{findings_lines}
use Rattle.civl_verdicts.proofs.reports.findings.put_findings.Given as goal

abbrev pub invariant-loop-at : goal.invariant-loop-at
invariant-loop-at l = l.out.items ++ findings_lines l.src l.budget (drop l.at l.conditions) (drop l.at l.findings) ≡ l.initial.out.items ++ findings_lines l.src l.budget l.conditions l.findings
