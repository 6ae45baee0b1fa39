use Rattle.std.proofs.Common.{◌≡◌}
use Rattle.civl_trial.specs.Trial.{copies, increment}
use Rattle.civl_trial.proofs.program.increments.Given as goal

-- so far there is what the copies before this one have
abbrev pub invariant-loop-copy : goal.invariant-loop-copy
invariant-loop-copy l = l.body ≡ copies increment l.copy
