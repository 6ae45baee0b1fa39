use Rattle.std.proofs.Common.{◌≡◌, ◌++◌, drop}
use Rattle.civl_conditions.specs.footprints.Agreement.{exists_at}
use Rattle.civl_losses.specs.Losses.{globals_differ}
use Rattle.civl_losses.proofs.differing.push_globals.Given as goal

abbrev pub invariant-loop-at : goal.invariant-loop-at
invariant-loop-at l =
    l.list ++ globals_differ (exists_at l.layer) l.at (drop l.at l.globals) (drop l.at l.after) (drop l.at l.before)
    ≡ l.fn.list ++ globals_differ (exists_at l.layer) 0 l.globals l.after l.before
