use Rattle.std.proofs.Common.{◌≡◌, length}
use Rattle.civl_outlined.specs.inner.Sums.{AreProcs}
use Rattle.civl_outlined.proofs.roots.all_procs.Given as goal

abbrev pub invariant-loop-number : goal.invariant-loop-number
invariant-loop-number l = record {
  long : length l.all ≡ l.number;
  are : AreProcs l.said.program.now l.said.outline.now l.number l.all;
}
