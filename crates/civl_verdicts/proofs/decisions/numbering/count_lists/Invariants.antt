use Rattle.std.specs.Prelude.{◌≡◌, ◌*◌, ◌^◌, ◌≤◌, drop}
use Rattle.civl_verdicts.specs.decisions.Numbered.{bits_together}
use Rattle.civl_verdicts.proofs.decisions.numbering.count_lists.Given as goal

abbrev pub invariant-loop-sort : goal.invariant-loop-sort
invariant-loop-sort l = (l.count * 2 ^ bits_together (drop l.sort-index l.sorts) ≡ 2 ^ bits_together l.sorts) × (l.count ≤ l.most) × (1 ≤ l.count)
