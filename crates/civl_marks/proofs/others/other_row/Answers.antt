use Rattle.std.proofs.Common.{arith}
use Rattle.civl_marks.proofs.Small.{bit_is_word}
use Rattle.civl_marks.proofs.others.other_row.Goals as goal

pub of-requires-then-eq : goal.of-requires-then-eq
of-requires-then-eq c =
    let is = c.width-then-eq.ensures.is in
    let narrow = c.width-then-eq.ensures.row.narrow in
    let wide = c.width-then-eq.ensures.row.wide in
    bit_is_word c.width-then-eq.result 1 (omega (arith, is, narrow)) (omega (arith, is, wide)) (omega arith)
