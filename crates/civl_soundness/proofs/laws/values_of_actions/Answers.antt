use Rattle.civl_soundness.proofs.Firing.{offers_are_sorted, gate_is_bool, guard_is_bool}
use Rattle.civl_soundness.proofs.laws.values_of_actions.Goals as goal

pub returns-clause-offers : goal.returns-clause-offers
returns-clause-offers c = offers_are_sorted

pub returns-clause-gate : goal.returns-clause-gate
returns-clause-gate c = gate_is_bool

pub returns-clause-guard : goal.returns-clause-guard
returns-clause-guard c = guard_is_bool
