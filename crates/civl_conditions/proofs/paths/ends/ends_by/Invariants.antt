use Rattle.std.proofs.Common.{◌≡◌, ◌++◌, drop}
use Rattle.civl_conditions.specs.paths.Ends.{ends_among}
use Rattle.civl_conditions.specs.paths.EndsMet.{is_reached, ends_by}
use Rattle.civl_conditions.proofs.paths.ends.ends_by.Given as goal

abbrev pub invariant-loop-end : goal.invariant-loop-end
invariant-loop-end l = l.ends ++ ends_among (is_reached l.onward l.exit l.fn.numbers) l.end (drop l.end l.fn.cuts) ≡ ends_by l.onward l.fn.cuts l.fn.numbers
