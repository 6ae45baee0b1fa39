use Rattle.civl_tree.specs.rules.Names.{global_names, targets_of}
use Rattle.civl_terms.specs.Building.{Grows}
use Rattle.civl_actions.specs.Actions.{LeavesOthers}
use Rattle.civl_actions.specs.inner.Steps.{AreUpdated}
use Rattle.civl_actions.proofs.parts.update.Given as goal

abbrev pub invariant-loop-one : goal.invariant-loop-one
invariant-loop-one l = AreUpdated l.initial.terms l.terms l.scope l.program l.action l.one-index l.initial.globals.items l.initial.outs.items l.globals.items l.outs.items × Grows l.initial.terms l.terms × LeavesOthers (global_names l.program.globals) (targets_of l.action) l.initial.globals.items l.globals.items
