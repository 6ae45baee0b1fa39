use Rattle.std.proofs.Common.{◌≡◌, List, [], length, ap, subst}
use Rattle.std.specs.Prelude.{IfOk}
use Rattle.civl_tree.specs.declared.action.Choice.{Choice}
use Rattle.civl_goals.proofs.Unheld.{of_some, of_none}
use Rattle.civl_goal_losses.specs.inner.Choices.{choices_in}
use Rattle.civl_goal_losses.proofs.reading.choice_count.Goals as goal

pub returns-in-Some : goal.returns-in-Some
returns-in-Some c =
    let found = of_some (choices_in c.args.program.now c.args.statement) [] c.args.program.now c.as_slice.result.now c.args.root c.in-Some.proc.now c.as_slice.ensures c.in-Some.ensures.lookup.3.0 c.in-Some.ensures.lookup.1 in
    subst (λ (cs : List Choice). IfOk c.choices_in.result (λ count. count ≡ length cs)) found c.choices_in.ensures

pub returns-in-None : goal.returns-in-None
returns-in-None c =
    ap (length {A = Choice}) (of_none (choices_in c.args.program.now c.args.statement) [] c.args.program.now c.as_slice.result.now c.args.root c.as_slice.ensures c.in-None.ensures.lookup.3)
