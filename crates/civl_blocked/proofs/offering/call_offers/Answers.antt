use Rattle.std.proofs.Common.{◌≡◌, ◌∙◌, List, ap}
use Rattle.std.specs.Prelude.{Option}
use Rattle.civl_bits.specs.declared.value.Value.{Value}
use Rattle.civl_tree.specs.declared.action.Action.{Action}
use Rattle.civl_tree.specs.rules.Names.{names_in_proc}
use Rattle.civl_firing.specs.Eval.{values_of}
use Rattle.civl_firing.specs.Scope.{frame_values}
use Rattle.civl_meaning.specs.Meaning.{called}
use Rattle.civl_conditions.specs.paths.Choices.{action_meant}
use Rattle.civl_blocked.specs.inner.Offering.{offers_in}
use Rattle.civl_blocked.proofs.Offers.{call_so}
use Rattle.civl_blocked.proofs.offering.call_offers.Goals as goal

pub returns : goal.returns
returns c results at next =
    let plain = c.args.plain.now in
    let vals : c.as_slice-3.result.now ≡ values_of (frame_values plain.program.globals c.args.proc.now c.args.locals.now) c.args.args.now = cc (c.as_slice.ensures, c.as_slice-2.ensures, c.as_slice-3.ensures, c.in_ok-inputs.ensures, c.in_frame-frame.ensures, c.inputs.view_is) in
    c.in_ok-offered.ensures
    ∙ (ap (λ (o : Option Action). offers_in plain.program.globals c.args.store.now o c.as_slice-3.result.now) c.action_called-action.ensures
    ∙ (ap (λ (vs : List Value). offers_in plain.program.globals c.args.store.now (action_meant (called plain c.args.name.now)) vs) vals
    ∙ call_so plain c.args.store.now (names_in_proc c.args.proc.now) c.args.locals.now results at next (called plain c.args.name.now) (values_of (frame_values plain.program.globals c.args.proc.now c.args.locals.now) c.args.args.now)))
