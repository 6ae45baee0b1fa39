use Rattle.std.proofs.Common.{take, cond}
use Rattle.civl_cnf.specs.Literal.{truth_of}
use Rattle.civl_circuits.specs.Circuits.{number, MakesWord}
use Rattle.civl_circuits.proofs.choosing.choose.Given as goal

abbrev pub invariant-loop-i : goal.invariant-loop-i
invariant-loop-i l = MakesWord l.initial.gates l.gates l.word.items l.i l.i (λ v. cond (truth_of v l.c) (number v (take l.i l.a)) (number v (take l.i l.b)))
