use Rattle.std.specs.Prelude.{take}
use Rattle.std.specs.List.{AllZip}
use Rattle.civl_bodies.specs.Bodies.{ArePassed}
use Rattle.civl_bodies.proofs.body.passed_of.Given as goal

abbrev pub invariant-loop-cut : goal.invariant-loop-cut
invariant-loop-cut l = AllZip (ArePassed l.proc) (take l.cut-index l.cuts) l.passed.items
