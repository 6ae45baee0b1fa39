use Rattle.civl_symbolic.proofs.Leaving.{constant_word}
use Rattle.civl_symbolic.proofs.leaves.constant.Goals as goal

pub returns-in_ok-lits-in-Word : goal.returns-in_ok-lits-in-Word
returns-in_ok-lits-in-Word c = constant_word _ _ c.in-Word.word _ _ _ _ c.in-Word.is c.width.ensures.word c.width.ensures.is c.value.ensures.is c.in_ok-lits-in-Word.ensures c.from_vec.ensures
