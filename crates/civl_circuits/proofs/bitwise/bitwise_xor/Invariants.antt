use Rattle.civl_bits.specs.Word.{bitwise_xor_at}
use Rattle.civl_circuits.specs.Circuits.{number, MakesWord}
use Rattle.civl_circuits.proofs.bitwise.bitwise_xor.Given as goal

abbrev pub invariant-loop-i : goal.invariant-loop-i
invariant-loop-i l = MakesWord l.initial.gates l.gates l.word.items l.i l.i (λ v. bitwise_xor_at l.i (number v l.a) (number v l.b))
