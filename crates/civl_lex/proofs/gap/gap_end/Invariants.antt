use Rattle.std.proofs.Common.{◌≡◌, ◌≤◌, ◌-◌, length, drop}
use Rattle.civl_lex.specs.inner.Front.{behind_gap}
use Rattle.civl_lex.proofs.gap.gap_end.Given as goal

abbrev pub invariant-loop-at : goal.invariant-loop-at
invariant-loop-at l = record { within : l.at ≤ length l.bytes; later : l.start ≤ l.at; rest : behind_gap (drop l.at l.bytes) ≡ behind_gap (drop l.start l.bytes) }

abbrev pub decreases-loop-at : goal.decreases-loop-at
decreases-loop-at l = length l.bytes - l.at
