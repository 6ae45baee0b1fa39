use Rattle.std.proofs.Common.{◌≤◌, ◌^◌, arith, sym, ◌∙◌}
use Rattle.std.proofs.Math.Nat.{pow-le-pow_right}
use Rattle.civl_weighing.proofs.Capping.{capped_big}
use Rattle.civl_weighing.proofs.weight.Weight.power.Goals as goal

pub returns-else-exponent-lt19 : goal.returns-else-exponent-lt19
returns-else-exponent-lt19 c =
    let large : 524288 ≤ 2 ^ c.args.exponent = pow-le-pow_right (omega arith) {i = 19} {j = c.args.exponent} (omega arith) in
    record { is = c.of-else-exponent-lt19.ensures.is ∙ capped_big 400001 (omega arith) ∙ sym (capped_big (2 ^ c.args.exponent) (omega arith)) }
