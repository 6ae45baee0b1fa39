use Rattle.civl_circuits.proofs.Wires.{Digits}
use Rattle.civl_circuits.proofs.wiring.constant.Given as goal

abbrev pub invariant-loop : goal.invariant-loop
invariant-loop l = Digits l.one l.fn.value l.counter l.rest l.word.items
