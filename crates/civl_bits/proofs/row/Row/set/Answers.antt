use Rattle.civl_bits.proofs.Cells.{set_row}
use Rattle.civl_bits.proofs.row.Row.set.Goals as goal

pub invariant_of-result : goal.invariant_of-result
invariant_of-result c =
    (set_row _ _ _ _ _ _ c.self.invariant c.self.view_is c.value-place.ensures.is c.value-place.ensures.word c.value-value.ensures.is c.value-value.ensures.word c.requires.index c.requires.width).0

pub returns : goal.returns
returns c =
    (set_row _ _ _ _ _ _ c.self.invariant c.self.view_is c.value-place.ensures.is c.value-place.ensures.word c.value-value.ensures.is c.value-value.ensures.word c.requires.index c.requires.width).1
