use Rattle.std.proofs.Common.{◌≡◌, ◌++◌, take}
use Rattle.civl_circuits.proofs.wiring.join.Given as goal

abbrev pub invariant-loop-lit : goal.invariant-loop-lit
invariant-loop-lit l = l.word.items ≡ l.low ++ take l.lit-index l.high
