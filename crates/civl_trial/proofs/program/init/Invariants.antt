use Rattle.std.proofs.Common.{◌≡◌, ◌-◌, ◌≤◌}
use Rattle.civl_trial.specs.Trial.{starts_to}
use Rattle.civl_trial.proofs.program.init.Given as goal

-- so far it asks what it is to ask of the copies before this one
abbrev pub invariant-loop-copy : goal.invariant-loop-copy
invariant-loop-copy l = (1 ≤ l.copy) × (l.init ≡ starts_to (l.copy - 1))
