use Rattle.std.specs.Prelude.{take}
use Rattle.std.specs.List.{AllZip}
use Rattle.civl_meaning.specs.Table.{ArePlacesOf}
use Rattle.civl_meaning.proofs.filling.places_of.Given as goal

abbrev pub invariant-loop-proc : goal.invariant-loop-proc
invariant-loop-proc l = AllZip ArePlacesOf (take l.proc-index l.proc-items) l.procs.items
