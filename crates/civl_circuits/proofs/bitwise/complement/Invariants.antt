use Rattle.std.proofs.Common.{◌≡◌, map, take}
use Rattle.civl_cnf.specs.Literal.{opposite}
use Rattle.civl_circuits.proofs.bitwise.complement.Given as goal

abbrev pub invariant-loop-lit : goal.invariant-loop-lit
invariant-loop-lit l = l.word.items ≡ map opposite (take l.lit-index l.a)
