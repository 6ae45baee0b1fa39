use Rattle.std.proofs.Common.{refl}
use Rattle.civl_conditions.proofs.Placing.{in_order}
use Rattle.civl_conditions.proofs.listing.push_all.Goals as goal

pub returns : goal.returns
returns c =
    rw (c.in_ok-push_acts.ensures, c.in_ok-push_blocks.ensures, c.in_ok-push_paths.ensures, c.in_ok-push_movers.ensures, c.in_ok-push_keeps.ensures, c.in_ok-push_starts.ensures)
    (in_order c.args.list.now c.args.program.now c.args.program.now c.args.step _ _ refl c.requires.places c.requires.wanted)
