use Rattle.civl_goals.proofs.Noting.{in_order}
use Rattle.civl_goals.proofs.listing.push_all.Goals as goal

pub returns : goal.returns
returns c = rw (c.in_ok-push_procs.ensures, c.in_ok-push_linears.ensures, c.in_ok-push_threads.ensures, c.in_ok-push.ensures.ok) (in_order c.args.list.now c.args.program.now c.args.outline.now)
