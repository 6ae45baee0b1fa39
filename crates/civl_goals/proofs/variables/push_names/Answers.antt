use Rattle.civl_goals.proofs.Grouping.{three_behind}
use Rattle.civl_goals.proofs.variables.push_names.Goals as goal

pub returns : goal.returns
returns c =
    rw (c.in_ok-push_locals.ensures, c.in_ok-push_params-2.ensures, c.in_ok-push_params.ensures, c.as_slice.ensures, c.as_slice-2.ensures, c.as_slice-3.ensures)
    (three_behind c.args.list.now _ _ _)
