use Rattle.std.proofs.Common.{arith}
use Rattle.civl_conditions.specs.footprints.Agreement.{exists_at}
use Rattle.civl_followed.proofs.Same.{agree_lengths}
use Rattle.civl_followed.proofs.agreeing.agree.Goals as goal

pub returns-then-before-globals-clause-no : goal.returns-then-before-globals-clause-no
returns-then-before-globals-clause-no c q a =
    let same = agree_lengths (exists_at c.args.layer) c.args.globals.now c.args.before.now c.args.after.now a in
    let one = same.0 in
    omega (arith, one)

pub returns-then-after-globals-clause-no : goal.returns-then-after-globals-clause-no
returns-then-after-globals-clause-no c q a =
    let same = agree_lengths (exists_at c.args.layer) c.args.globals.now c.args.before.now c.args.after.now a in
    let two = same.1 in
    omega (arith, two)
