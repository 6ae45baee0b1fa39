use Rattle.std.proofs.Common.{◌≡◌, ◌+◌, ◌≤◌, drop, map}
use Rattle.civl_losses.specs.inner.Routes.{cut_count}
use Rattle.civl_losses.proofs.arriving.cut_count.Given as goal

abbrev pub invariant-loop-stmt : goal.invariant-loop-stmt
invariant-loop-stmt l = record {
  counted : l.count + cut_count (map (λ s. s.now) (drop l.stmt-index l.stmts)) ≡ cut_count (map (λ s. s.now) l.stmts);
  small : l.count ≤ l.stmt-index;
}
