use Rattle.std.specs.Prelude.{length, filter, take}
use Rattle.std.proofs.Common.{◌≡◌, ◌≤◌}
use Rattle.civl_verdicts.specs.reports.Findings.{is_of}
use Rattle.civl_verdicts.proofs.reports.counting.count.Given as goal

abbrev pub invariant-loop-found : goal.invariant-loop-found
invariant-loop-found l = (l.count ≡ length (filter (is_of l.kind) (take l.found-index l.findings))) × (l.count ≤ l.found-index)
