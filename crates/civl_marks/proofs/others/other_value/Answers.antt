use Rattle.std.proofs.Common.{◌<◌, arith}
use Rattle.civl_marks.specs.Others.{other_number}
use Rattle.civl_marks.proofs.Small.{bit_is_word, other_below}
use Rattle.civl_marks.proofs.others.other_value.Goals as goal

pub of-requires : goal.of-requires
of-requires c =
    let is = c.width.ensures.is in
    let narrow = c.width.ensures.word.narrow in
    let wide = c.width.ensures.word.wide in
    let other = c.other_number.ensures in
    let below : other_number c.value.result < 2 = other_below c.value.result in
    bit_is_word c.width.result c.other_number.result (omega (arith, is, narrow)) (omega (arith, is, wide)) (omega (arith, other, below))
