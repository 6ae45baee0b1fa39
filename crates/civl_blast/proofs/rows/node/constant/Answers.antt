use Rattle.civl_blast.proofs.rows.Growth.{grows_refl}
use Rattle.civl_blast.proofs.rows.StepCells.{bool_made, word_made}
use Rattle.civl_blast.proofs.rows.node.constant.Goals as goal

pub returns-in_ok-ids-in-Row-clause-made : goal.returns-in_ok-ids-in-Row-clause-made
returns-in_ok-ids-in-Row-clause-made c = rw c.in-Row.is (c.in_ok-ids-in-Row.ensures.made c.args.table.now)

pub returns-in_ok-ids-in-Bool : goal.returns-in_ok-ids-in-Bool
returns-in_ok-ids-in-Bool c =
    record { grows = grows_refl _; made = rw c.in-Bool.is (bool_made _ (rw c.in-Bool.is at c.requires.here) c.in_ok-ids-in-Bool.ensures) }

pub returns-in_ok-ids-in-Word : goal.returns-in_ok-ids-in-Word
returns-in_ok-ids-in-Word c =
    record { grows = grows_refl _; made = rw c.in-Word.is (word_made _ (rw c.in-Word.is at c.requires.here) c.in_ok-ids-in-Word.ensures) }
