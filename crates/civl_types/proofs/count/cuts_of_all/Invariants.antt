use Rattle.std.proofs.Common.{◌≡◌, ◌+◌, ◌≤◌, min, sum, map, drop}
use Rattle.civl_tree.specs.rules.Count.{cuts_of}
use Rattle.civl_types.proofs.count.cuts_of_all.Given as goal

abbrev pub invariant-loop-proc : goal.invariant-loop-proc
invariant-loop-proc l = (min (l.total + sum (map cuts_of (drop l.proc-index l.procs))) 257 ≡ min (sum (map cuts_of l.fn.procs)) 257) × (l.total ≤ 257)
