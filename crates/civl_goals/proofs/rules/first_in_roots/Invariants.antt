use Rattle.std.proofs.Common.{◌≡◌, drop, map}
use Rattle.civl_tree.specs.rules.Rules.{each_place, first_of}
use Rattle.civl_goals.specs.Rules.{descending_in}
use Rattle.civl_goals.specs.Told.{told}
use Rattle.civl_goals.proofs.rules.first_in_roots.Given as goal

abbrev pub invariant-loop-place : goal.invariant-loop-place
invariant-loop-place l =
    first_of (map told (each_place (descending_in l.program) l.place (drop l.place l.procs))) ≡ first_of (map told (each_place (descending_in l.fn.program) 0 l.fn.program.procs))
