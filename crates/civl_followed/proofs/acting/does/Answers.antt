use Rattle.std.proofs.Common.{◌∙◌, sym, ap}
use Rattle.std.specs.Prelude.{option_copied}
use Rattle.civl_followed.proofs.Codes.{does_so}
use Rattle.civl_followed.proofs.acting.does.Goals as goal

pub returns-in-Moved-clause-yes : goal.returns-in-Moved-clause-yes
returns-in-Moved-clause-yes c told procedure place =
    let there = sym c.refined_action.ensures ∙ ap option_copied c.in-Some.is in
    let gate = sym c.gate.ensures ∙ c.if-not-gate.false in
    let fit = sym c.choices_fit.ensures ∙ c.if-not-choices_fit.false in
    does_so c.args.done.now c.args.chosen.now c.in-Some.action.now c.as_slice-globals.result.now c.inputs-inputs.result.now c.in_ok-transition-in-Some.field-0 c.in-Moved.to c.in-Moved.outs c.as_slice.result.now procedure place
    c.as_slice-globals.ensures c.inputs-inputs.ensures there gate fit c.are_values.ensures c.in_ok-transition-in-Some.ensures c.in-Moved.is c.as_slice.ensures (c.is_after.ensures.yes told)
