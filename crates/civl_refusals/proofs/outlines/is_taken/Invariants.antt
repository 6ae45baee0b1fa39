use Rattle.std.proofs.Common.{◌≡◌, drop}
use Rattle.std.specs.List.{list_any}
use Rattle.civl_goals.specs.Rules.{same_place}
use Rattle.civl_refusals.proofs.outlines.is_taken.Given as goal

abbrev pub invariant-loop-other : goal.invariant-loop-other
invariant-loop-other l = list_any (same_place l.note) (drop l.other-index l.earlier) ≡ list_any (same_place l.fn.note) l.fn.earlier
