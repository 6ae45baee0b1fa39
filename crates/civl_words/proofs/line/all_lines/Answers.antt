use Rattle.civl_words.proofs.line.all_lines.Goals as goal

pub returns : goal.returns
returns c = c.with.ensures _ _ (c.with-line.ensures _ _ c.run_lines.ensures c.prove_line.ensures) c.proof_line.ensures
