use Rattle.std.proofs.Common.{◌≡◌}
use Rattle.civl_trial.specs.Copies.{actions_of}
use Rattle.civl_trial.specs.Trial.{copies}
use Rattle.civl_trial.proofs.program.actions.Given as goal

-- so far there is what the copies before this one have
abbrev pub invariant-loop-copy : goal.invariant-loop-copy
invariant-loop-copy l = l.actions ≡ copies actions_of l.copy
