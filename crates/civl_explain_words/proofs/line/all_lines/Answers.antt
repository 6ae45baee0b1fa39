use Rattle.civl_explain_words.proofs.line.all_lines.Goals as goal

pub returns : goal.returns
returns c = c.with.ensures _ _ (c.with-line.ensures _ _ c.text_lines.ensures c.run_line.ensures) c.prove_line.ensures
