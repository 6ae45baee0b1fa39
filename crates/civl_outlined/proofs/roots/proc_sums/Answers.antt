use Rattle.std.proofs.Common.{sym, ◌∙◌}
use Rattle.std.proofs.lemmas.Bool.{true≢false}
use Rattle.civl_outlined.proofs.roots.proc_sums.Goals as goal

pub root_statements-requires-clause-root : goal.root_statements-requires-clause-root
root_statements-requires-clause-root c = sym c.is_root.ensures ∙ c.if-is_root.true

pub returns-then-is_root : goal.returns-then-is_root
returns-then-is_root c = record {
  frame = c.frame_bits-frame.ensures;
  statements = λ root. c.in_ok-statements.ensures;
}

pub returns : goal.returns
returns c = record {
  frame = c.frame_bits-frame.ensures;
  statements = λ root. absurd (true≢false (sym root ∙ sym c.is_root.ensures ∙ c.if-is_root.false));
}
