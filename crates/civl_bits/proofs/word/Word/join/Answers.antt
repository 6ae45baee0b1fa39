use Rattle.std.proofs.Common.{◌<◌, ◌≤◌, ◌+◌, ◌*◌, ◌%◌, ◌^◌, ℕ, ap, arith}
use Rattle.civl_bits.proofs.Powers.{joined_below, below_wider}
use Rattle.civl_bits.proofs.word.Word.join.Goals as goal

pub overflow_cast-result : goal.overflow_cast-result
overflow_cast-result c =
    let first = λ (p : ℕ × ℕ). p.0 in
    let narrow : c.self.inside.width + c.low.inside.width ≤ 32 = omega (arith, c.requires, ap first c.self.view_is, ap first c.low.view_is) in
    let below : c.from.result * 2 ^ c.low.inside.width % 18446744073709551616 + c.from-2.result < 2 ^ (c.self.inside.width + c.low.inside.width) =
    rw (c.from.ensures, c.from-2.ensures) (joined_below _ _ _ _ c.self.invariant.fits c.low.invariant.fits narrow) in
    omega (arith, below_wider (c.from.result * 2 ^ c.low.inside.width % 18446744073709551616 + c.from-2.result) _ 32 below narrow)

pub invariant_of-result : goal.invariant_of-result
invariant_of-result c =
    let first = λ (p : ℕ × ℕ). p.0 in
    let narrow : c.self.inside.width + c.low.inside.width ≤ 32 = omega (arith, c.requires, ap first c.self.view_is, ap first c.low.view_is) in
    record {
      narrow = omega (arith, c.self.invariant.narrow);
      wide = narrow;
      fits = rw (c.from.ensures, c.from-2.ensures) (joined_below _ _ _ _ c.self.invariant.fits c.low.invariant.fits narrow);
    }
