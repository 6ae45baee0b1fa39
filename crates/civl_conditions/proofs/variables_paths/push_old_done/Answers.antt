use Rattle.std.proofs.Common.{◌∙◌, sym}
use Rattle.civl_conditions.proofs.Behind.{had_behind}
use Rattle.civl_conditions.proofs.variables_paths.push_old_done.Goals as goal

pub returns-in_ok-push_flag : goal.returns-in_ok-push_flag
returns-in_ok-push_flag c = had_behind c.args.list.now _ _ _ (sym c.is_rank_loop.ensures ∙ c.if-is_rank_loop.true) c.in_ok-push_flag.ensures
