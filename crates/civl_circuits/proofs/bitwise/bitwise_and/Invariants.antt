use Rattle.civl_bits.specs.Word.{bitwise_and_at}
use Rattle.civl_circuits.specs.Circuits.{number, MakesWord}
use Rattle.civl_circuits.proofs.bitwise.bitwise_and.Given as goal

abbrev pub invariant-loop-i : goal.invariant-loop-i
invariant-loop-i l = MakesWord l.initial.gates l.gates l.word.items l.i l.i (λ v. bitwise_and_at l.i (number v l.a) (number v l.b))
