use Rattle.std.proofs.Common.{◌∙◌, None, ap, sym}
use Rattle.std.specs.Prelude.{option_copied}
use Rattle.civl_tree.specs.declared.action.Action.{Action}
use Rattle.civl_tree.specs.rules.Names.{names_in_proc}
use Rattle.civl_meaning.specs.Layers.{topmost}
use Rattle.civl_meaning.specs.Meaning.{called}
use Rattle.civl_goal_losses.proofs.Failing.{call_fails}
use Rattle.civl_goal_losses.proofs.faults.call_fault.Goals as goal

pub returns-in-None : goal.returns-in-None
returns-in-None c at next =
    let p = c.args.program.now in
    call_fails p c.args.store.now (names_in_proc c.args.proc.now) c.args.locals.now c.args.results.now at next (called (topmost p) c.args.name.now) None
    (sym (ap (option_copied {T = Action}) c.in-None.is) ∙ c.action_called.ensures) _
