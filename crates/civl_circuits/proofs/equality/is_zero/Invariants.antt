use Rattle.std.specs.Prelude.{nat_eq}
use Rattle.std.proofs.Common.{take}
use Rattle.civl_circuits.specs.Circuits.{number, MakesBit}
use Rattle.civl_circuits.proofs.equality.is_zero.Given as goal

abbrev pub invariant-loop-i : goal.invariant-loop-i
invariant-loop-i l = MakesBit l.initial.gates l.gates l.zero l.i (λ v. nat_eq (number v (take l.i l.a)) 0)
