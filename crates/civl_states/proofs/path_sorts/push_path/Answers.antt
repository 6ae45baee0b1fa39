use Rattle.civl_states.proofs.Calling.{calls_are}
use Rattle.civl_states.proofs.Grouping.{eight_behind}
use Rattle.civl_states.proofs.path_sorts.push_path.Goals as goal

pub returns : goal.returns
returns c =
    let e = calls_are c.args.program.now c.args.step c.saturating_sub.result c.args.proc.now c.args.cut _ _ c.saturating_sub.ensures c.requires.flat c.requires.passed.are in
    rw (c.in_ok-push_numbers.ensures, e, c.in_ok-push_flag-2.ensures, c.in_ok-push_flag.ensures, c.is_rank_loop.ensures, c.is_entry.ensures, c.in_ok-push_old_outs.ensures, c.in_ok-push_inner.ensures, c.in_ok-push_params.ensures, c.as_slice.ensures, c.in_ok-push_old_globals.ensures, c.in_ok-push_globals.ensures)
    (eight_behind c.args.sorts.now.items _ _ _ _ _ _ _ _)
