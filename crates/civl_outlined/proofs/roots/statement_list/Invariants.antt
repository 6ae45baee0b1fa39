use Rattle.std.proofs.Common.{◌≡◌, length}
use Rattle.civl_outlined.specs.inner.Sums.{AreThere}
use Rattle.civl_outlined.proofs.roots.statement_list.Given as goal

abbrev pub invariant-loop-number : goal.invariant-loop-number
invariant-loop-number l = record {
  long : length l.all ≡ l.number;
  are : AreThere l.said.program.now l.said.outline.now l.place l.proc l.number l.all;
}
