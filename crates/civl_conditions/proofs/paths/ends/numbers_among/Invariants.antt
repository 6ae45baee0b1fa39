use Rattle.std.proofs.Common.{◌≡◌, take, map}
use Rattle.civl_conditions.specs.paths.EndsMet.{number_among}
use Rattle.civl_conditions.proofs.paths.ends.numbers_among.Given as goal

abbrev pub invariant-loop-statement : goal.invariant-loop-statement
invariant-loop-statement l = l.numbers ≡ map (number_among l.fn.cuts) (take l.statement-index l.statement-items)
