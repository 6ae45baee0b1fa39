use Rattle.std.proofs.Common.{take}
use Rattle.civl_script.specs.Schedules.{AreEntriesOf}
use Rattle.civl_script.proofs.schedule.store_values.Given as goal

-- so far the entries are those of the globals, and these are their values
abbrev pub invariant-loop-at : goal.invariant-loop-at
invariant-loop-at l = AreEntriesOf (take l.at l.globals) (take l.at l.entries) l.values.items
