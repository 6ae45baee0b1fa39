use Rattle.std.specs.Prelude.{◌^◌}
use Rattle.std.proofs.Common.{◌++◌, append_assoc, sym, subst}
use Rattle.civl_terms.proofs.Growing.{grows_trans}
use Rattle.civl_meaning.specs.Permissions.{of_params}
use Rattle.civl_linear.specs.Modes.{is_lent}
use Rattle.civl_conditions.specs.Permissions.{of_modes}
use Rattle.civl_states.specs.formula_parts.Lists.{AreSaid}
use Rattle.civl_states.specs.formula_parts.Masks.{AreCarried}
use Rattle.civl_states.proofs.formula_parts.Listing.{sorts_stay, said_stay}
use Rattle.civl_states.proofs.formula_parts.Carrying.{carried_as}
use Rattle.civl_movers.specs.Items.{handed_back}
use Rattle.civl_states.specs.Runs.{param_sorts, out_sorts}
use Rattle.civl_states.proofs.Picking.{same_some, action_wide}
use Rattle.civl_movers.proofs.items.back_items.Goals as goal

pub param_items-requires-clause-widths : goal.param_items-requires-clause-widths
param_items-requires-clause-widths c = (action_wide c.args.program.now c.requires.rules c.args.x.now.action c.get-action.result.now c.get-action.ensures).0

pub param_items-requires-2-clause-widths : goal.param_items-requires-2-clause-widths
param_items-requires-2-clause-widths c = (action_wide c.args.program.now c.requires.rules c.args.x.now.action c.get-action.result.now c.get-action.ensures).1

pub param_items-requires-2-clause-ids : goal.param_items-requires-2-clause-ids
param_items-requires-2-clause-ids c = sorts_stay _ _ _ _ c.in_ok-lent.ensures.grows (c.requires.outs c.get-action.result.now c.get-action.ensures)

pub returns-clause-carried : goal.returns-clause-carried
returns-clause-carried c = λ a f i e o h x s.
    let p = c.args.program.now in
    let b = c.get-action.result.now in
    let same = same_some _ b a c.get-action.ensures x.is in
    let lent = c.in_ok-lent.ensures.carried f i h (subst (λ t. AreSaid c.args.terms.now c.args.x.now.inputs (param_sorts t) i) (sym same) x.inputs) in
    let outs = said_stay _ _ c.args.outs.now (out_sorts b) o c.in_ok-lent.ensures.grows (subst (λ t. AreSaid c.args.terms.now c.args.outs.now (out_sorts t) o) (sym same) s) in
    subst (λ t. AreCarried c.param_items-2.new.terms (2 ^ p.permissions) c.in_ok-back.back (λ env. f env ++ handed_back t (i env) (o env))) same
    (carried_as (λ env. (f env ++ of_modes is_lent b.params (i env)) ++ of_params b.outs (o env)) (λ env. f env ++ handed_back b (i env) (o env))
    (λ env fits. append_assoc (f env) (of_modes is_lent b.params (i env)) (of_params b.outs (o env)))
    (c.in_ok-back.ensures.carried (λ env. f env ++ of_modes is_lent b.params (i env)) o lent outs))

pub returns-clause-grows : goal.returns-clause-grows
returns-clause-grows c = grows_trans _ _ _ c.in_ok-lent.ensures.grows c.in_ok-back.ensures.grows

pub returns-in_err-back-clause-grows : goal.returns-in_err-back-clause-grows
returns-in_err-back-clause-grows c = grows_trans _ _ _ c.in_ok-lent.ensures.grows c.in_err-back.ensures.grows
