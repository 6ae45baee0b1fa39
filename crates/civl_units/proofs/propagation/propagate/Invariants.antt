use Rattle.std.proofs.Common.{◌≡◌, ◌<◌, ◌+◌, ◌++◌, ℕ, [], length, get_or}
use Rattle.civl_units.specs.Trail.{open_count}
use Rattle.civl_units.specs.Marks.{Propagates, IsSettled}
use Rattle.civl_units.proofs.propagation.propagate.Given as goal

abbrev pub invariant-loop-at : goal.invariant-loop-at
invariant-loop-at l = record {
  reached : Propagates l.fn.marks.values l.marks.values (l.formula ++ l.earlier);
  count : length l.marks.trail + open_count l.marks.values ≡ length l.fn.marks.values;
  settled : (n : ℕ) → n < length (l.formula ++ l.earlier) → IsSettled l.marks l.at (get_or (l.formula ++ l.earlier) n []);
}
