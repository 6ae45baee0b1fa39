use Rattle.std.proofs.Common.{◌≡◌, map, take}
use Rattle.civl_yields.specs.Phases.{phases_of}
use Rattle.civl_yields.proofs.listing.phases_in.Given as goal

abbrev pub invariant-loop-proc : goal.invariant-loop-proc
invariant-loop-proc l = l.left ≡ map (phases_of l.program) (take l.proc-index l.proc-items)
