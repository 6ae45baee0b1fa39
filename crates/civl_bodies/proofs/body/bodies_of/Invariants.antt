use Rattle.std.specs.Prelude.{take}
use Rattle.std.specs.List.{AllZip}
use Rattle.civl_bodies.specs.Bodies.{IsBody}
use Rattle.civl_bodies.proofs.body.bodies_of.Given as goal

abbrev pub invariant-loop-number : goal.invariant-loop-number
invariant-loop-number l = AllZip IsBody (take l.number l.items) l.procs.items
