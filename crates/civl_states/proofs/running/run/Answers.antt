use Rattle.std.proofs.lemmas.Option.{slice_get_within}
use Rattle.civl_states.proofs.Runs.{of_some, if_some, runs}
use Rattle.civl_states.proofs.running.run.Goals as goal

pub instance-requires-clause-action : goal.instance-requires-clause-action
instance-requires-clause-action c = slice_get_within _ _ _ c.requires.x.is

pub instance-requires-clause-inputs : goal.instance-requires-clause-inputs
instance-requires-clause-inputs c = if_some _ _ _ c.requires.x.is c.requires.x.inputs

pub instance-requires-clause-choices : goal.instance-requires-clause-choices
instance-requires-clause-choices c = if_some _ _ _ c.requires.x.is c.requires.x.choices

pub returns-clause-runs : goal.returns-clause-runs
returns-clause-runs c = runs c.args.terms.now c.instance.new.terms c.args.program.now c.args.globals.now c.args.x.now c.in_ok-made.made c.in_ok-made.ensures.grows c.in_ok-made.ensures.made

pub returns-clause-gate : goal.returns-clause-gate
returns-clause-gate c = (of_some _ _ _ c.requires.x.is c.in_ok-made.ensures.made).gate.sort

pub returns-clause-guard : goal.returns-clause-guard
returns-clause-guard c = (of_some _ _ _ c.requires.x.is c.in_ok-made.ensures.made).guard.sort

pub returns-clause-store : goal.returns-clause-store
returns-clause-store c = (of_some _ _ _ c.requires.x.is c.in_ok-made.ensures.made).change.global_sorts

pub returns-clause-weighs : goal.returns-clause-weighs
returns-clause-weighs c = λ a e. of_some _ _ a e c.in_ok-made.ensures.weighs

pub returns-clause-outs : goal.returns-clause-outs
returns-clause-outs c = λ a e. (of_some _ _ a e c.in_ok-made.ensures.made).change.out_sorts
