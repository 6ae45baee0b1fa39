use Rattle.civl_explain_words.proofs.line.text_lines.Goals as goal

pub returns : goal.returns
returns c = c.with.ensures _ _ (c.with-line.ensures _ _ (c.new.ensures.app, c.new.ensures.local) c.check_line.ensures) c.conditions_line.ensures
