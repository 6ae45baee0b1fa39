use Rattle.std.proofs.Common.{◌≡◌, drop, map}
use Rattle.civl_tree.specs.rules.Rules.{each_place, first_of}
use Rattle.civl_goals.specs.Rules.{descending_thread}
use Rattle.civl_goals.specs.Told.{told}
use Rattle.civl_goals.proofs.rules.first_of_threads.Given as goal

abbrev pub invariant-loop-place : goal.invariant-loop-place
invariant-loop-place l =
    first_of (map told (each_place (descending_thread l.program) l.place (drop l.place l.threads))) ≡ first_of (map told (each_place (descending_thread l.fn.program) 0 l.fn.program.threads))
