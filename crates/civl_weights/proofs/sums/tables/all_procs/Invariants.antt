use Rattle.std.proofs.Common.{take}
use Rattle.std.specs.List.{AllZip}
use Rattle.civl_weights.specs.sums.Sums.{OfStep}
use Rattle.civl_weights.specs.sums.Tables.{OfProc}
use Rattle.civl_weights.proofs.sums.tables.all_procs.Given as goal

abbrev pub invariant-loop-number : goal.invariant-loop-number
invariant-loop-number l = AllZip (OfProc l.src) (take l.number l.procs) l.sums × OfStep l.src l.step
