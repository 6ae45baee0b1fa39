use Rattle.civl_words.proofs.line.text_lines.Goals as goal

pub returns : goal.returns
returns c = c.with.ensures _ _ (c.with-line-2.ensures _ _ (c.with-line.ensures _ _ (c.new.ensures.app, c.new.ensures.local) c.check_line.ensures) c.conditions_line.ensures) (c.fmt_line.ensures.app, c.fmt_line.ensures.local)
