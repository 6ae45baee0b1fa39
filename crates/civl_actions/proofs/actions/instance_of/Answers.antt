use Rattle.std.proofs.Common.{arith}
use Rattle.civl_terms.proofs.Growing.{grows_trans}
use Rattle.civl_actions.proofs.Staying.{gate_stays, guard_stays, guard_since, change_since}
use Rattle.civl_actions.proofs.actions.instance_of.Goals as goal

pub returns-clause-made : goal.returns-clause-made
returns-clause-made c =
    let to_guard = grows_trans _ _ _ c.in_ok-gate.ensures.grows c.in_ok-guard.ensures.grows in
    let from_gate = grows_trans _ _ _ c.in_ok-guard.ensures.grows c.in_ok-changed.ensures.grows in
    record {
      gate = gate_stays _ _ _ _ _ _ _ _ c.in_ok-gate.ensures.gate from_gate;
      guard = guard_stays _ _ _ _ _ _ _ _ _ (guard_since _ _ _ _ _ _ _ _ c.requires.globals c.requires.inputs c.requires.choices c.in_ok-gate.ensures.grows _ c.in_ok-guard.ensures.guard) c.in_ok-changed.ensures.grows;
      change = change_since _ _ _ _ _ _ _ _ c.requires.globals c.requires.inputs c.requires.choices to_guard _ _ c.in_ok-changed.ensures.change;
    }

pub returns-clause-weighs : goal.returns-clause-weighs
returns-clause-weighs c = omega (arith, c.in_ok-gate.ensures.weighs, c.in_ok-guard.ensures.weighs, c.in_ok-changed.ensures.weighs)
