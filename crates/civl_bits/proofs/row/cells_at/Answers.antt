use Rattle.std.proofs.Common.{◌<◌, arith}
use Rattle.std.proofs.lemmas.Nat.{one_shl}
use Rattle.civl_bits.proofs.Cells.{at_most_64}
use Rattle.civl_bits.proofs.row.cells_at.Goals as goal

pub returns-clause-few : goal.returns-clause-few
returns-clause-few c =
    let small : c.args.index < 32 = omega arith in
    omega (arith, one_shl c.args.index 32 small, at_most_64 c.args.index c.requires)
