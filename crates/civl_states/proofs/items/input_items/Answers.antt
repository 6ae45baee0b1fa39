use Rattle.std.specs.Prelude.{◌^◌}
use Rattle.std.proofs.Common.{◌++◌, sym, subst}
use Rattle.civl_meaning.specs.Permissions.{of_params}
use Rattle.civl_states.specs.formula_parts.Lists.{AreSaid}
use Rattle.civl_states.specs.formula_parts.Masks.{AreCarried}
use Rattle.civl_states.specs.Runs.{param_sorts}
use Rattle.civl_states.proofs.Picking.{same_some, action_wide}
use Rattle.civl_states.proofs.items.input_items.Goals as goal

pub param_items-requires-clause-widths : goal.param_items-requires-clause-widths
param_items-requires-clause-widths c = (action_wide c.args.program.now c.requires.rules c.args.x.now.action c.get-action.result.now c.get-action.ensures).0

pub returns-clause-carried : goal.returns-clause-carried
returns-clause-carried c = λ a f i e h x.
    let same = same_some _ c.get-action.result.now a c.get-action.ensures x.is in
    subst (λ b. AreCarried c.param_items.new.terms (2 ^ c.args.program.now.permissions) c.in_ok-more.more (λ env. f env ++ of_params b.params (i env))) same
    (c.in_ok-more.ensures.carried f i h (subst (λ b. AreSaid c.args.terms.now c.args.x.now.inputs (param_sorts b) i) (sym same) x.inputs))
