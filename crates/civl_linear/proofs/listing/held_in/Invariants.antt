use Rattle.std.proofs.Common.{◌≡◌, map, take}
use Rattle.civl_linear.specs.Cuts.{held_of}
use Rattle.civl_linear.proofs.listing.held_in.Given as goal

abbrev pub invariant-loop-proc : goal.invariant-loop-proc
invariant-loop-proc l = l.cuts ≡ map (held_of l.program) (take l.proc-index l.proc-items)
