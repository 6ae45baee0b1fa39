use Rattle.std.proofs.Common.{◌≡◌, ◌+◌, drop}
use Rattle.civl_lines.specs.Rendered.{head_count}
use Rattle.civl_lines.proofs.source.head_count.Given as goal

abbrev pub invariant-loop-at : goal.invariant-loop-at
invariant-loop-at l = head_count (drop l.at l.tokens) + l.at ≡ head_count l.tokens
