use Rattle.std.proofs.Common.{◌∙◌, None, Some}
use Rattle.civl_conditions.proofs.Calls.{called_is}
use Rattle.civl_body.proofs.calls.number_meant.Goals as goal

pub returns-in-Some-proc_named-clause-is : goal.returns-in-Some-proc_named-clause-is
returns-in-Some-proc_named-clause-is c =
    c.number_refined.ensures.is ∙ called_is c.args.program.now c.args.layer c.args.name.now None (Some c.in-Some-proc_named.proc.now) c.in-None.ensures.is c.in-Some-proc_named.ensures

pub returns-in-None-proc_named-clause-is : goal.returns-in-None-proc_named-clause-is
returns-in-None-proc_named-clause-is c = called_is c.args.program.now c.args.layer c.args.name.now None None c.in-None.ensures.is c.in-None-proc_named.ensures
