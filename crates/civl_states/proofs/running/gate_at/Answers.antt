use Rattle.std.proofs.lemmas.Option.{slice_get_within}
use Rattle.civl_states.proofs.Runs.{of_some, if_some, tells_gate}
use Rattle.civl_states.proofs.running.gate_at.Goals as goal

pub gate-requires-clause-action : goal.gate-requires-clause-action
gate-requires-clause-action c = slice_get_within _ _ _ c.requires.inputs.is

pub gate-requires-clause-inputs : goal.gate-requires-clause-inputs
gate-requires-clause-inputs c = if_some _ _ _ c.requires.inputs.is c.requires.inputs.sorted

pub returns-clause-gate : goal.returns-clause-gate
returns-clause-gate c = tells_gate c.args.terms.now c.gate.new.terms c.args.program.now c.args.globals.now c.args.action c.args.inputs.now c.in_ok-id.id c.in_ok-id.ensures.grows c.in_ok-id.ensures.gate

pub returns-clause-sorted : goal.returns-clause-sorted
returns-clause-sorted c = (of_some _ _ _ c.requires.inputs.is c.in_ok-id.ensures.gate).sort

pub returns-clause-weighs : goal.returns-clause-weighs
returns-clause-weighs c = λ b e. of_some _ _ b e c.in_ok-id.ensures.weighs
