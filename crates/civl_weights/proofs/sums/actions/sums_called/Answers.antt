use Rattle.std.proofs.Common.{subst, Some, None}
use Rattle.std.specs.Prelude.{Option}
use Rattle.civl_tree.specs.declared.action.Action.{Action}
use Rattle.civl_conditions.proofs.Calls.{called_is}
use Rattle.civl_weights.specs.sums.Sums.{OfMaybe}
use Rattle.civl_weights.proofs.sums.Acting.{maybe_none}
use Rattle.civl_weights.proofs.sums.actions.sums_called.Goals as goal

pub returns-in-Some-proc_named : goal.returns-in-Some-proc_named
returns-in-Some-proc_named c = subst (λ (o : Option Action). OfMaybe c.args.program.now o c.sums_refined_at.result) (called_is c.args.program.now c.args.layer c.args.name.now None (Some c.in-Some-proc_named.proc.now) (maybe_none c.args.program.now _ c.in-None.ensures) c.in-Some-proc_named.ensures) c.sums_refined_at.ensures

pub returns-in-None-proc_named : goal.returns-in-None-proc_named
returns-in-None-proc_named c = subst (λ (o : Option Action). OfMaybe c.args.program.now o None) (called_is c.args.program.now c.args.layer c.args.name.now None None (maybe_none c.args.program.now _ c.in-None.ensures) c.in-None-proc_named.ensures) tt
