use Rattle.civl_names.proofs.walks.Placing.{body_counts}
use Rattle.civl_names.proofs.procs.first_in_proc.Goals as goal

pub first_in_body-requires : goal.first_in_body-requires
first_in_body-requires c = body_counts c.args.proc.now.body c.requires
