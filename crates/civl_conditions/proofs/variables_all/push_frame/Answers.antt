use Rattle.civl_conditions.proofs.Behind.{four_behind}
use Rattle.civl_conditions.proofs.variables_all.push_frame.Goals as goal

pub returns : goal.returns
returns c =
    rw (c.in_ok-push_flag.ensures, c.in_ok-push_locals.ensures, c.in_ok-push_params-2.ensures, c.in_ok-push_params.ensures, c.as_slice.ensures, c.as_slice-2.ensures, c.as_slice-3.ensures)
    (four_behind c.args.list.now _ _ _ _)
