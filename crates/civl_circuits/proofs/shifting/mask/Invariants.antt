use Rattle.std.proofs.Common.{◌*◌, take}
use Rattle.civl_cnf.specs.Literal.{truth_of}
use Rattle.civl_cnf.specs.Gates.{bit}
use Rattle.civl_circuits.specs.Circuits.{number, MakesWord}
use Rattle.civl_circuits.proofs.shifting.mask.Given as goal

abbrev pub invariant-loop-i : goal.invariant-loop-i
invariant-loop-i l = MakesWord l.initial.gates l.gates l.word.items l.i l.i (λ v. bit (truth_of v l.c) * number v (take l.i l.a))
