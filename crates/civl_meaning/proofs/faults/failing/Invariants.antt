use Rattle.std.proofs.Common.{◌≡◌, ◌<◌, ℕ, false, get_or}
use Rattle.civl_meaning.specs.declared.config.Running.{Running}
use Rattle.civl_meaning.specs.Failing.{thread_fails}
use Rattle.civl_meaning.proofs.faults.failing.Given as goal

abbrev pub invariant-loop-at : goal.invariant-loop-at
invariant-loop-at l = (k : ℕ) (d : Running) → k < l.at → thread_fails l.plain l.config.store (get_or l.threads k d) ≡ false
