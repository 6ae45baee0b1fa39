use Rattle.civl_soundness.proofs.Firing.{gate_is_sorted, guard_is_sorted, body_is_sorted}
use Rattle.civl_soundness.proofs.laws.scopes_are_sorted.Goals as goal

pub returns-clause-gate : goal.returns-clause-gate
returns-clause-gate c = gate_is_sorted

pub returns-clause-guard : goal.returns-clause-guard
returns-clause-guard c = guard_is_sorted

pub returns-clause-body : goal.returns-clause-body
returns-clause-body c = body_is_sorted
