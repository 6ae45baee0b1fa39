use Rattle.std.proofs.Common.{◌≡◌, take}
use Rattle.civl_bodies.proofs.numbers.Numbers.from_slice.Given as goal

abbrev pub invariant-loop-number : goal.invariant-loop-number
invariant-loop-number l = l.numbers ≡ take l.number-index l.list
