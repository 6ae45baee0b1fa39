use Rattle.std.proofs.Common.{arith}
use Rattle.civl_blast.proofs.rows.Growth.{lengthens_refl}
use Rattle.civl_blast.proofs.rows.StepCells.{bool_steps, word_steps, row_width, row_index, row_room, row_steps}
use Rattle.civl_blast.proofs.rows.node.variable.Goals as goal

pub expand-requires-clause-room : goal.expand-requires-clause-room
expand-requires-clause-room c = let h = rw c.in-Row.is at c.requires.here in omega (arith, row_room h, c.requires.room)

pub expand-requires-clause-index : goal.expand-requires-clause-index
expand-requires-clause-index c = let h = rw c.in-Row.is at c.requires.here in row_index h

pub expand-requires-clause-width : goal.expand-requires-clause-width
expand-requires-clause-width c = let h = rw c.in-Row.is at c.requires.here in row_width h

pub returns-in_ok-ids-in-Row-clause-made : goal.returns-in_ok-ids-in-Row-clause-made
returns-in_ok-ids-in-Row-clause-made c = rw c.in-Row.is (row_steps (rw c.in-Row.is at c.requires.here) c.in_ok-ids-in-Row.ensures.made)

pub returns-in_ok-ids-in-Bool : goal.returns-in_ok-ids-in-Bool
returns-in_ok-ids-in-Bool c =
    record { grows = lengthens_refl _; made = rw c.in-Bool.is (bool_steps _ _ (rw c.in-Bool.is at c.requires.here) c.in_ok-ids-in-Bool.ensures) }

pub returns-in_ok-ids-in-Word : goal.returns-in_ok-ids-in-Word
returns-in_ok-ids-in-Word c =
    record { grows = lengthens_refl _; made = rw c.in-Word.is (word_steps _ _ (rw c.in-Word.is at c.requires.here) c.in_ok-ids-in-Word.ensures) }
