use Rattle.std.proofs.Common.{◌∙◌, None, Some}
use Rattle.civl_conditions.proofs.Calls.{called_is}
use Rattle.civl_conditions.proofs.variables_calls.action_called.Goals as goal

pub returns-in-Some-proc_named : goal.returns-in-Some-proc_named
returns-in-Some-proc_named c =
    c.action_refined.ensures ∙ called_is c.args.program.now c.args.layer c.args.name.now None (Some c.in-Some-proc_named.proc.now) c.in-None.ensures c.in-Some-proc_named.ensures

pub returns-in-None-proc_named : goal.returns-in-None-proc_named
returns-in-None-proc_named c = called_is c.args.program.now c.args.layer c.args.name.now None None c.in-None.ensures c.in-None-proc_named.ensures
