use Rattle.std.proofs.Common.{◌≡◌}
use Rattle.civl_trial.specs.Copies.{globals_of}
use Rattle.civl_trial.specs.Trial.{copies}
use Rattle.civl_trial.proofs.program.globals.Given as goal

-- so far there is what the copies before this one have
abbrev pub invariant-loop-copy : goal.invariant-loop-copy
invariant-loop-copy l = l.globals ≡ copies globals_of l.copy
