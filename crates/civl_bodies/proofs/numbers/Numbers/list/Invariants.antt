use Rattle.std.proofs.Common.{◌≡◌, take}
use Rattle.std.specs.Prelude.{flat_map}
use Rattle.civl_bodies.specs.Numbers.{numbers_in}
use Rattle.civl_bodies.proofs.numbers.Numbers.list.Given as goal

abbrev pub invariant-loop-run : goal.invariant-loop-run
invariant-loop-run l = l.list.items ≡ flat_map numbers_in (take l.run-index l.run-items)
