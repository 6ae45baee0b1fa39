use Rattle.std.proofs.Common.{◌≡◌, ◌≤◌, ℕ, ap, arith}
use Rattle.civl_bits.proofs.Powers.{below_wider}
use Rattle.civl_bits.proofs.word.Word.widen.Goals as goal

pub invariant_of-result : goal.invariant_of-result
invariant_of-result c =
    let same : c.self.inside.width ≡ c.args.self.0 = ap (λ (p : ℕ × ℕ). p.0) c.self.view_is in
    let more : c.self.inside.width ≤ c.args.width = omega (arith, c.requires.more) in
    record {
      narrow = omega (arith, c.self.invariant.narrow);
      wide = c.requires.fits;
      fits = below_wider _ _ _ c.self.invariant.fits more;
    }
