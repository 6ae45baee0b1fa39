use Rattle.civl_firing.proofs.values.sorts.sort_of.Goals as goal

pub returns-in-Word-clause-value : goal.returns-in-Word-clause-value
returns-in-Word-clause-value c = rw c.in-Word.is c.width.ensures.word
