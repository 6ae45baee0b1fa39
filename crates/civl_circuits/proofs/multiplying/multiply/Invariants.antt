use Rattle.std.proofs.Common.{◌*◌, length, take}
use Rattle.civl_bits.specs.Word.{product_at}
use Rattle.civl_circuits.specs.Circuits.{number, MakesWord}
use Rattle.civl_circuits.proofs.multiplying.multiply.Given as goal

abbrev pub invariant-loop-i : goal.invariant-loop-i
invariant-loop-i l = MakesWord l.initial.gates l.gates l.product.items (length l.a) (3 * length l.a * l.i) (λ v. product_at (length l.a) (number v l.a) (number v (take l.i l.b)))
