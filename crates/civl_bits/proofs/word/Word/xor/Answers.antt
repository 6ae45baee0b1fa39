use Rattle.std.specs.Prelude.{bit_xor}
use Rattle.std.proofs.Common.{◌≡◌, ◌∙◌, ℕ, ap, sym}
use Rattle.civl_bits.specs.Word.{bitwise_xor_at}
use Rattle.civl_bits.proofs.Bits.{xor_is, on_words}
use Rattle.civl_bits.proofs.Powers.{xor_below}
use Rattle.civl_bits.proofs.word.Word.xor.Goals as goal

pub invariant_of-result : goal.invariant_of-result
invariant_of-result c =
    let first = λ (p : ℕ × ℕ). p.0 in
    let one : c.other.inside.width ≡ c.self.inside.width = ap first c.other.view_is ∙ sym c.requires ∙ sym (ap first c.self.view_is) in
    record {
      narrow = c.self.invariant.narrow;
      wide = c.self.invariant.wide;
      fits = xor_below _ _ _ _ one c.self.invariant.fits c.other.invariant.fits;
    }

pub returns : goal.returns
returns c =
    on_words bit_xor bitwise_xor_at xor_is _ _ _ _ _ _ c.self.view_is c.other.view_is c.requires c.self.invariant.fits c.other.invariant.fits
