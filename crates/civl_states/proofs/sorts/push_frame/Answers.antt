use Rattle.civl_states.proofs.Grouping.{four_behind}
use Rattle.civl_states.proofs.sorts.push_frame.Goals as goal

pub returns : goal.returns
returns c =
    rw (c.in_ok-push.ensures.items, c.in_ok-push_locals.ensures, c.in_ok-push_params-2.ensures, c.in_ok-push_params.ensures, c.as_slice.ensures, c.as_slice-2.ensures, c.as_slice-3.ensures)
    (four_behind c.args.sorts.now.items _ _ _ _)
