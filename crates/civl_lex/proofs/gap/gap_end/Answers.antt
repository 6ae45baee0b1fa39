use Rattle.std.proofs.Common.{◌∙◌, sym, ap, arith}
use Rattle.civl_lex.specs.inner.Front.{behind_gap}
use Rattle.civl_lex.proofs.Gaps.{comment_skipped}
use Rattle.civl_lex.proofs.gap.gap_end.Goals as goal

pub loop-at-preserved : goal.loop-at-preserved
loop-at-preserved c = record {
  within = c.line_end-at.ensures.within;
  later = omega (arith, c.line_end-at.ensures.later);
  rest = ap behind_gap c.line_end-at.ensures.rest ∙ comment_skipped c.args.bytes.now c.loop-at.at (sym c.starts_with.ensures.value ∙ c.if-starts_with.true) ∙ c.loop-at.invariant.rest;
}
