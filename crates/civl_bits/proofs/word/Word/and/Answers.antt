use Rattle.std.specs.Prelude.{bit_and}
use Rattle.civl_bits.specs.Word.{bitwise_and_at}
use Rattle.civl_bits.proofs.Bits.{and_is, on_words}
use Rattle.civl_bits.proofs.word.Word.and.Goals as goal

pub returns : goal.returns
returns c =
    on_words bit_and bitwise_and_at and_is _ _ _ _ _ _ c.self.view_is c.other.view_is c.requires c.self.invariant.fits c.other.invariant.fits
