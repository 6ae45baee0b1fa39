use Rattle.civl_conditions.proofs.Behind.{eight_behind}
use Rattle.civl_conditions.proofs.variables_paths.push_path.Goals as goal

pub returns : goal.returns
returns c =
    rw (c.in_ok-push_passed.ensures, c.in_ok-push_old_done.ensures, c.in_ok-push_done.ensures, c.in_ok-push_old_outs.ensures, c.in_ok-push_inner.ensures, c.in_ok-push_params.ensures, c.as_slice.ensures, c.in_ok-push_old_globals.ensures, c.in_ok-push_near.ensures)
    (eight_behind c.args.list.now _ _ _ _ _ _ _ _)
