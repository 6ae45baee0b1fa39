use Rattle.std.specs.Prelude.{take}
use Rattle.std.specs.List.{AllZip}
use Rattle.civl_history.specs.inner.Spots.{AreSpotsOf}
use Rattle.civl_history.proofs.spots.spots_of.Given as goal

abbrev pub invariant-loop-proc : goal.invariant-loop-proc
invariant-loop-proc l = AllZip AreSpotsOf (take l.proc-index l.proc-items) l.procs.items
