use Rattle.std.proofs.Common.{◌≡◌, replicate}
use Rattle.civl_circuits.proofs.wiring.repeated.Given as goal

abbrev pub invariant-loop : goal.invariant-loop
invariant-loop l = l.word.items ≡ replicate l.counter l.lit
