use Rattle.std.proofs.Common.{◌≡◌}
use Rattle.civl_trial.specs.Copies.{invariants_of}
use Rattle.civl_trial.specs.Trial.{copies}
use Rattle.civl_trial.proofs.program.invariants.Given as goal

-- so far there is what the copies before this one have
abbrev pub invariant-loop-copy : goal.invariant-loop-copy
invariant-loop-copy l = l.invariants ≡ copies invariants_of l.copy
