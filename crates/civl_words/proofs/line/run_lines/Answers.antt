use Rattle.civl_words.proofs.line.run_lines.Goals as goal

pub returns : goal.returns
returns c = c.with.ensures _ _ (c.with-line.ensures _ _ c.text_lines.ensures c.run_line.ensures) c.trial_line.ensures
