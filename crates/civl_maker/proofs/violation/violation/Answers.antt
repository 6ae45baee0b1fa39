use Rattle.std.proofs.Common.{◌∙◌, sym}
use Rattle.civl_maker.proofs.Asking.{of_actions, of_paths, of_steadiness}
use Rattle.civl_movers.proofs.Modes.{have_out_modes}
use Rattle.civl_maker.proofs.violation.violation.Goals as goal

pub violation-requires-clause-kind : goal.violation-requires-clause-kind
violation-requires-clause-kind c = of_actions c.args.src.now c.args.condition.now c.requires.listed (sym c.kind_of.ensures ∙ c.in-Actions.is)

pub path_violation-requires-clause-kind : goal.path_violation-requires-clause-kind
path_violation-requires-clause-kind c = of_paths c.args.src.now c.args.condition.now c.requires.listed (sym c.kind_of.ensures ∙ c.in-Paths.is)

pub steady_violation-requires-clause-kind : goal.steady_violation-requires-clause-kind
steady_violation-requires-clause-kind c = of_steadiness c.args.src.now c.args.condition.now c.requires.listed (sym c.kind_of.ensures ∙ c.in-Steadiness.is)

pub returns-in_ok-id-in-Actions-clause-weighs : goal.returns-in_ok-id-in-Actions-clause-weighs
returns-in_ok-id-in-Actions-clause-weighs c = c.in_ok-id-in-Actions.ensures.weighs (have_out_modes c.args.src.now c.requires.written)
